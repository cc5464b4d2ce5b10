-- The 65th open bracket, in the words of the language.
use Rattle.std.specs.Prelude.{◌≡◌, ℕ, ◌<◌, ◌⊎◌, List, [], ◌∷◌}
use Rattle.grammar.specs.Laws.{most_open}
use Rattle.rules.specs.declared.word.Kind.{Kind}
use Rattle.rules.specs.Language.{open_after}
use Rattle.reading.specs.Places.{Placed}

-- In a text with these words, before which d brackets are open, the byte b at place n is a word, and behind it more than 64 brackets are open.
abbrev pub TooDeep : (ℕ → Kind) → ℕ → ℕ → ℕ → List Placed → Type 0
TooDeep kind d n b [] = ⊥
TooDeep kind d n b (x ∷ xs) = ((x.place ≡ n) × (x.word ≡ b ∷ []) × (most_open < open_after kind x.word d)) ⊎ TooDeep kind (open_after kind x.word d) n b xs
