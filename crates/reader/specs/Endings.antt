-- What is told of words that ended.
use Rattle.std.specs.Prelude.{◌≡◌, ℕ, zero, suc, Bool, true, false, List, [], ◌∷◌, ◌++◌, length, Some, None, Option}
use Rattle.grammar.specs.Meaning.{Word}
use Rattle.rules.specs.declared.word.Inside.{Inside}
use Rattle.rules.specs.Rules.{Rules, loose}
use Rattle.rules.specs.Machine.{State, on, step, pending, finished}
use Rattle.reading.specs.Fit.{Fit}
use Rattle.reader.specs.declared.ended.Ended.{Ended}

-- the kind of a word shows in its first byte
abbrev pub described : Rules → Word → Option Ended
described r [] = None
described r (b ∷ w) = Some (record { kind = r.kind b; len = length (b ∷ w) })

-- the word of this number
abbrev pub described_at : Rules → List Word → ℕ → Option Ended
described_at r [] n = None
described_at r (w ∷ ws) zero = described r w
described_at r (w ∷ ws) (suc n) = described_at r ws n

-- A word that the byte b ended, where u was under way: without a last byte of its own it is u, over before b; else b is its last byte.
abbrev pub EndedByKind : Bool → Word → ℕ → Word → Type 0
EndedByKind true u b w = w ≡ u
EndedByKind false u b w = (v : Word) × (w ≡ v ++ b ∷ [])

abbrev pub EndedAt : Rules → Word → ℕ → Word → Type 0
EndedAt r u b [] = ⊥
EndedAt r u b (c ∷ w) = EndedByKind (loose (r.kind c)) u b (c ∷ w)

abbrev pub AllEndedAt : Rules → Word → ℕ → List Word → Type 0
AllEndedAt r u b [] = Unit {0}
AllEndedAt r u b (w ∷ ws) = EndedAt r u b w × AllEndedAt r u b ws

-- a word that the end ends has no last byte of its own
abbrev pub AllLoose : Rules → List Word → Type 0
AllLoose r [] = Unit {0}
AllLoose r ([] ∷ ws) = ⊥
AllLoose r ((c ∷ w) ∷ ws) = (loose (r.kind c) ≡ true) × AllLoose r ws

-- so the kind of a word says whether its last byte is the byte that ended it
pub record OwnIsLast (r : Rules) : Type 0 where
  pub by_byte : (s : State) (b : ℕ) (io : Option Inside) (v : Word) (ws : List Word) → Fit r s → step r s b ≡ on io v ws → AllEndedAt r s.word b ws
  pub by_end : (s : State) → Fit r s → finished r s.place s.inside s.word ≡ true → AllLoose r (pending s.inside s.word)
