-- What every state keeps that the machine reaches from the beginning of a document.
use Rattle.std.proofs.Common.{◌≡◌, ℕ, Bool, true, false, cond, ◌&&◌, [], ◌∷◌, ◌++◌, Some, None, Option, refl}
use Rattle.grammar.specs.Meaning.{Word}
use Rattle.rules.specs.declared.word.Inside.{Inside}
use Rattle.rules.specs.declared.word.Begin.{Begin}
use Rattle.rules.specs.declared.word.Begin.TheVariants.{Blank, Sole, Starts, Never as NeverBegins}
use Rattle.rules.specs.declared.word.Turn.{Turn}
use Rattle.rules.specs.declared.word.Turn.TheVariants.{Stays, Closes, Never as NeverTurns}
use Rattle.rules.specs.Rules.{Rules, Place, admits, behind, behind_all}
use Rattle.rules.specs.Machine.{State, Step, dead, on, begun, between, turned, ending, stepped, step, next, fresh}
use Rattle.rules.specs.Lawful.{first_byte, one_more, Reached, at_first, one_on}
pub use Rattle.reading.specs.Fit.{FitAt, Fit}
use Rattle.reading.specs.Fit.{Live}

pub fit_fresh : (r : Rules) → Fit r (fresh r)
fit_fresh r = (tt, at_first)

-- a step leaves that
abbrev FitStep : Rules → Place → Step → Type 0
FitStep r p dead = Unit {0}
FitStep r p (on io w ws) = FitAt r (behind_all r p ws) io w

fit_begun : (r : Rules) (p : Place) → Reached r p → (b : ℕ) (k : Begin) (a : Bool) → r.begins b ≡ k → admits r p b ≡ a → FitStep r p (begun a k b)
fit_begun r p q b Blank a ek ea = (tt, q)
fit_begun r p q b Sole true ek ea = (tt, one_on p (behind r p (b ∷ [])) b q ea refl)
fit_begun r p q b Sole false ek ea = tt
fit_begun r p q b (Starts i) true ek ea = ((first_byte i b ek, ea), q)
fit_begun r p q b (Starts i) false ek ea = tt
fit_begun r p q b NeverBegins a ek ea = tt

fit_ending : (r : Rules) (p : Place) (w : Word) (st : Step) → FitStep r (behind r p w) st → FitStep r p (ending w st)
fit_ending r p w dead f = tt
fit_ending r p w (on io v ws) f = f

fit_cond : (r : Rules) (p : Place) (t : Bool) (st : Step) → FitStep r p st → FitStep r p (cond t st dead)
fit_cond r p true st f = f
fit_cond r p false st f = tt

-- behind a word under way
pub reached_behind : (r : Rules) (p : Place) (i : Inside) (b : ℕ) (v : Word) → Live r p i (b ∷ v) → Reached r p → Reached r (behind r p (b ∷ v))
reached_behind r p i b v live q = one_on p (behind r p (b ∷ v)) b q live.1 refl

fit_turned : (r : Rules) (p : Place) (i : Inside) (b : ℕ) (v : Word) (c : ℕ) → Live r p i (b ∷ v) → Reached r p → (k : Turn) → r.turns i (b ∷ v) c ≡ k → FitStep r p (turned r p i (b ∷ v) c k)
fit_turned r p i b v c live q (Stays j) ek = ((one_more i j (b ∷ v) ((b ∷ v) ++ c ∷ []) c live.0 ek refl, live.1), q)
fit_turned r p i b v c live q Closes ek = (tt, reached_behind r p i b v live q)
fit_turned r p i b v c live q NeverTurns ek =
    let w : Word = b ∷ v in
    let p' : Place = behind r p w in
    fit_cond r p (r.whole i w && r.delimits c) (ending w (between r p' c))
    (fit_ending r p w (between r p' c) (fit_begun r p' (reached_behind r p i b v live q) c (r.begins c) (admits r p' c) refl refl))

pub fit_stepped : (r : Rules) (p : Place) (io : Option Inside) (w : Word) (b : ℕ) → FitAt r p io w → FitStep r p (stepped r p io w b)
fit_stepped r p None w b f = fit_begun r p f.1 b (r.begins b) (admits r p b) refl refl
fit_stepped r p (Some i) [] b f = absurd f.0
fit_stepped r p (Some i) (c ∷ v) b f = fit_turned r p i c v b f.0 f.1 (r.turns i (c ∷ v) b) refl

fit_next_of : (r : Rules) (s : State) (st : Step) → Fit r s → FitStep r s.place st → Fit r (next r s st)
fit_next_of r s dead f g = f
fit_next_of r s (on io w ws) f g = g

pub fit_next : (r : Rules) (s : State) (b : ℕ) → Fit r s → Fit r (next r s (step r s b))
fit_next r s b f = fit_next_of r s (step r s b) f (fit_stepped r s.place s.inside s.word b f)
