-- How a reader answers.
use Rattle.std.specs.Prelude.{◌≡◌, ℕ, ◌<◌, ◌≤◌, List, [], length, Some, None, Ok, Err, Option, Result, slice_index_or}
use Rattle.std.specs.Borrow.{Bor}
use Rattle.layout.specs.declared.token.Token.{Token as Handed}
use Rattle.layout.specs.Tokens.{Token, Ending}
use Rattle.layout.specs.View.{view}
use Rattle.grammar.specs.declared.refusal.Refusal.{Refusal}
use Rattle.grammar.specs.declared.grammar.Step.{Step}
use Rattle.grammar.specs.Refusals.{number_of}
use Rattle.grammar.specs.Meaning.{Word, byte, end, Answer, refused, gives, Meaning, after}

-- the answer gives the tokens ts, and the counts of its words and tokens
abbrev pub Gives : Answer → List Token → Step → Type 0
Gives a ts step = (ws : List Word) × (a ≡ gives ws ts) × (step.words ≡ length ws) × (step.tokens ≡ length ts)

-- the answer refuses by this number, which leaves the meaning as it was and gives no token
abbrev pub Refuses : Answer → Meaning → Meaning → List Token → Refusal → Type 0
Refuses a m m' ts e = (a ≡ refused (number_of e)) × (m' ≡ m) × (ts ≡ [])

-- a byte is taken: it gives what the meaning says, and leaves the meaning for the rest; or it is refused as the meaning says
abbrev pub Took : Meaning → ℕ → Meaning → List Token → Result Step Refusal → Type 0
Took m b m' ts (Ok step) = (m' ≡ after m b) × Gives (m.answer [] (byte b)) ts step
Took m b m' ts (Err e) = Refuses (m.answer [] (byte b)) m m' ts e

-- the end
abbrev pub Closed : Meaning → Meaning → List Token → Result Step Refusal → Type 0
Closed m m' ts (Ok step) = Gives (m.answer [] end) ts step
Closed m m' ts (Err e) = Refuses (m.answer [] end) m m' ts e

-- the token of this number, or none where there are not so many
abbrev pub Nth : List Token → ℕ → Option (Handed (Bor (List ℕ))) → Type 0
Nth ts n None = length ts ≤ n
Nth ts n (Some t) = (n < length ts) × (view t ≡ slice_index_or ts n Ending)
