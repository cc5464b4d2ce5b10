-- How a reader goes on: by a bracket, by a byte more of a word, by a byte, by the end. What is refused leaves all as it was.
use Rattle.std.specs.Prelude.{◌≡◌, ℕ, true, false, List, [], None, Ok, Err, Option, Result}
use Rattle.grammar.specs.declared.refusal.Refusal.{Refusal}
use Rattle.grammar.specs.declared.refusal.Refusal.TheVariants.{LongWord, ManyBrackets}
use Rattle.grammar.specs.Refusals.{number_of}
use Rattle.grammar.specs.Meaning.{Word, end, refused, gives}
use Rattle.rules.specs.declared.place.Bracket.{Bracket}
use Rattle.rules.specs.declared.place.Move.{Move}
use Rattle.rules.specs.Rules.{Rules, Place, behind_all, moved}
use Rattle.rules.specs.Machine.{State, on, judged, step, low, short, reply}
use Rattle.reading.specs.Accepts.{at}
use Rattle.reader.specs.declared.over.Own.{Own}
use Rattle.reader.specs.Pieces.{own_word, own_tokens}
use Rattle.reader.specs.State.{Held, state_of, Sound, Reading, at_rest}

-- the brackets behind a word that does this, if they are not too many
abbrev pub Gone : Move → List Bracket → List Bracket → Result (Unit {0}) Refusal → Type 0
Gone m ks ks' (Ok done) = (ks' ≡ (moved m ks).brackets) × (low (moved m ks) ≡ true)
Gone m ks ks' (Err e) = (e ≡ ManyBrackets) × (low (moved m ks) ≡ false) × (ks' ≡ ks)

-- a longer word, if it is not too long
abbrev pub Collected : Word → Word → Word → Result (Unit {0}) Refusal → Type 0
Collected w longer w' (Ok done) = (w' ≡ longer) × (short longer ≡ true)
Collected w longer w' (Err e) = (e ≡ LongWord) × (short longer ≡ false) × (w' ≡ w)

-- a byte, from the state s
pub record Went (r : Rules) (s : State) (b : ℕ) (v : Reading) : Type 0 where
  pub stepped : step r s b ≡ on v.state.inside v.state.word v.ended
  pub place : v.state.place ≡ behind_all r s.place v.ended
  pub answered : judged r s (step r s b) ≡ gives v.ended v.given

-- a byte that is taken leads from a sound state to a sound one
abbrev pub StaysSound : Rules → Type 0
StaysSound r = (s : State) (b : ℕ) (v : Reading) → Sound r s → Went r s b v → Sound r v.state

-- a byte between words, at the place p
abbrev pub Begins : Rules → Place → ℕ → Held → Held → Option Own → Result (Unit {0}) Refusal → Type 0
Begins r p b h h' o (Ok done) = (h'.bytes ≡ h.bytes) × Went r (at p None []) b (record { state = state_of h'; ended = own_word o; given = own_tokens r o })
Begins r p b h h' o (Err e) = (judged r (at p None []) (step r (at p None []) b) ≡ refused (number_of e)) × (h' ≡ h) × (o ≡ None)

-- any byte
abbrev pub Steps : Rules → State → ℕ → Reading → Result (Unit {0}) Refusal → Type 0
Steps r s b v (Ok done) = Went r s b v
Steps r s b v (Err e) = (judged r s (step r s b) ≡ refused (number_of e)) × (v ≡ at_rest s)

-- the end, from the state s
pub record Closed (r : Rules) (s : State) (v : Reading) : Type 0 where
  pub state : v.state ≡ at (behind_all r s.place v.ended) None []
  pub answered : reply r s end ≡ gives v.ended v.given

-- an end that is taken does so too
abbrev pub EndsSound : Rules → Type 0
EndsSound r = (s : State) (v : Reading) → Sound r s → Closed r s v → Sound r v.state

abbrev pub Finishes : Rules → State → Reading → Result (Unit {0}) Refusal → Type 0
Finishes r s v (Ok done) = Closed r s v
Finishes r s v (Err e) = (reply r s end ≡ refused (number_of e)) × (v ≡ at_rest s)
