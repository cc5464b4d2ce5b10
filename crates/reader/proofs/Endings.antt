-- Which of the words that a byte ends have it as their last byte.
use Rattle.std.proofs.Common.{◌≡◌, ℕ, Bool, true, false, cond, ◌&&◌, [], ◌∷◌, ◌++◌, Some, None, Option, sym, refl, subst}
use Rattle.std.proofs.lemmas.Bool.{and_parts}
use Rattle.grammar.specs.Meaning.{Word}
use Rattle.rules.specs.declared.word.Inside.{Inside}
use Rattle.rules.specs.declared.word.Begin.{Begin}
use Rattle.rules.specs.declared.word.Begin.TheVariants.{Blank, Sole, Starts, Never as NeverBegins}
use Rattle.rules.specs.declared.word.Turn.{Turn}
use Rattle.rules.specs.declared.word.Turn.TheVariants.{Stays, Closes, Never as NeverTurns}
use Rattle.rules.specs.Rules.{Rules, Place, admits, behind}
use Rattle.rules.specs.Machine.{Step, dead, on, begun, between, turned, ending, stepped, pending, finished, no_brackets}
use Rattle.rules.specs.Lawful.{Lawful, Begun}
use Rattle.reading.proofs.Fit.{FitAt}
use Rattle.reader.specs.Endings.{EndedByKind, EndedAt, AllEndedAt, AllLoose, OwnIsLast}

abbrev StepEnded : Rules → Word → ℕ → Step → Type 0
StepEnded r u b dead = Unit {0}
StepEnded r u b (on io v ws) = AllEndedAt r u b ws

-- a byte between words
ended_begun : (r : Rules) → Lawful r → (u : Word) (b : ℕ) (k : Begin) (a : Bool) → r.begins b ≡ k → StepEnded r u b (begun a k b)
ended_begun r l u b Blank a e = tt
ended_begun r l u b Sole true e = (subst (λ (t : Bool). EndedByKind t u b (b ∷ [])) (sym (l.sole_not_loose b e)) ([], refl), tt)
ended_begun r l u b Sole false e = tt
ended_begun r l u b (Starts i) true e = tt
ended_begun r l u b (Starts i) false e = tt
ended_begun r l u b NeverBegins a e = tt

-- a byte behind a word under way
ended_ending : (r : Rules) (u : Word) (b : ℕ) (w : Word) (st : Step) → EndedAt r u b w → StepEnded r u b st → StepEnded r u b (ending w st)
ended_ending r u b w dead e f = tt
ended_ending r u b w (on io v ws) e f = (e, f)

ended_never : (r : Rules) → Lawful r → (p : Place) (i : Inside) (c : ℕ) (w : Word) (b : ℕ) (t : Bool) → Begun r i (c ∷ w) → (r.whole i (c ∷ w) && r.delimits b) ≡ t → StepEnded r (c ∷ w) b (cond t (ending (c ∷ w) (between r (behind r p (c ∷ w)) b)) dead)
ended_never r l p i c w b false g e = tt
ended_never r l p i c w b true g e =
    let whole = (and_parts (r.whole i (c ∷ w)) (r.delimits b) e).0 in
    let q : Place = behind r p (c ∷ w) in
    ended_ending r (c ∷ w) b (c ∷ w) (between r q b) (subst (λ (t : Bool). EndedByKind t (c ∷ w) b (c ∷ w)) (sym (l.whole_is_loose i c w g whole)) refl) (ended_begun r l (c ∷ w) b (r.begins b) (admits r q b) refl)

ended_turned : (r : Rules) → Lawful r → (p : Place) (i : Inside) (c : ℕ) (w : Word) (b : ℕ) (k : Turn) → Begun r i (c ∷ w) → r.turns i (c ∷ w) b ≡ k → StepEnded r (c ∷ w) b (turned r p i (c ∷ w) b k)
ended_turned r l p i c w b (Stays j) g e = tt
ended_turned r l p i c w b Closes g e = (subst (λ (t : Bool). EndedByKind t (c ∷ w) b ((c ∷ w) ++ b ∷ [])) (sym (l.closed_not_loose i c b w g e)) (c ∷ w, refl), tt)
ended_turned r l p i c w b NeverTurns g e = ended_never r l p i c w b (r.whole i (c ∷ w) && r.delimits b) g refl

ended_stepped : (r : Rules) → Lawful r → (p : Place) (io : Option Inside) (w : Word) (b : ℕ) → FitAt r p io w → StepEnded r w b (stepped r p io w b)
ended_stepped r l p None w b f = ended_begun r l w b (r.begins b) (admits r p b) refl
ended_stepped r l p (Some i) [] b f = absurd f.0
ended_stepped r l p (Some i) (c ∷ w) b f = ended_turned r l p i c w b (r.turns i (c ∷ w) b) f.0.0 refl

-- the end
loose_end : (r : Rules) → Lawful r → (p : Place) (io : Option Inside) (w : Word) → FitAt r p io w → finished r p io w ≡ true → AllLoose r (pending io w)
loose_end r l p None w f e = tt
loose_end r l p (Some i) [] f e = absurd f.0
loose_end r l p (Some i) (c ∷ w) f e = (l.whole_is_loose i c w f.0.0 (and_parts (r.whole i (c ∷ w)) (no_brackets r (behind r p (c ∷ w))) e).0, tt)

pub own_is_last : (r : Rules) → Lawful r → OwnIsLast r
own_is_last r l = record {
  by_byte = λ s b io v ws f e. subst (StepEnded r s.word b) e (ended_stepped r l s.place s.inside s.word b f);
  by_end = λ s f e. loose_end r l s.place s.inside s.word f e;
}
