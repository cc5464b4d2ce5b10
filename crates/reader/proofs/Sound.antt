-- What every machine keeps.
use Rattle.std.proofs.Common.{◌≡◌, ℕ, Bool, true, false, cond, List, [], ◌∷◌, length, nat_le, Some, None, Option, sym, refl, ap, subst, arith}
use Rattle.std.proofs.lemmas.Bool.{and_parts}
use Rattle.std.proofs.lemmas.Bool.Decides.{nat_tests}
use Rattle.layout.specs.Tokens.{Token}
use Rattle.grammar.specs.Meaning.{Word, granted, refused, gives}
use Rattle.rules.specs.declared.word.Inside.{Inside}
use Rattle.rules.specs.Rules.{Rules, Place, behind, behind_all, stand_for}
use Rattle.rules.specs.Machine.{State, Step, dead, on, step, next, judged, low, all_low, fresh, pending, finished, no_brackets}
use Rattle.reading.specs.Accepts.{at}
use Rattle.reading.proofs.Fit.{FitAt, fit_fresh, fit_next, reached_behind}
use Rattle.reading.proofs.Steps.{went}
use Rattle.reader.specs.State.{Sound, Reading}
use Rattle.reader.specs.Goes.{Went, Closed}

pub sound_fresh : (r : Rules) → Sound r (fresh r)
sound_fresh r = record { fit = fit_fresh r; shallow = refl }

-- behind words that do not open too many brackets, not too many are open
low_behind : (r : Rules) (p : Place) (ws : List Word) → low p ≡ true → all_low r p ws ≡ true → low (behind_all r p ws) ≡ true
low_behind r p [] h a = h
low_behind r p (w ∷ ws) h a = let x = and_parts (low (behind r p w)) (all_low r (behind r p w) ws) a in low_behind r (behind r p w) ws x.0 x.1

low_next : (r : Rules) (s : State) (st : Step) → low s.place ≡ true → granted (judged r s st) ≡ true → low (next r s st).place ≡ true
low_next r s dead h g = h
low_next r s (on io w ws) h g = low_behind r s.place ws h (went r s (on io w ws) g).lows

-- a byte that is taken leaves the state that the machine goes to
pub next_state : (r : Rules) (s : State) (b : ℕ) (v : Reading) → Went r s b v → next r s (step r s b) ≡ v.state
next_state r s b v w = rw (w.stepped, ← w.place)

-- so that keeps it
pub sound_went : (r : Rules) (s : State) (b : ℕ) (v : Reading) → Sound r s → Went r s b v → Sound r v.state
sound_went r s b v h w = subst (Sound r) (next_state r s b v w) (record { fit = fit_next r s b h.fit; shallow = low_next r s (step r s b) h.shallow (ap granted w.answered) })

-- and so does an end that is taken
none_low : (p : Place) → nat_le (length p.brackets) 0 ≡ true → low p ≡ true
none_low p h = grind (arith, nat_tests)

sound_end : (r : Rules) (p : Place) (io : Option Inside) (w : Word) → FitAt r p io w → low p ≡ true → finished r p io w ≡ true → Sound r (at (behind_all r p (pending io w)) None [])
sound_end r p None w f h e = record { fit = (tt, f.1); shallow = h }
sound_end r p (Some i) [] f h e = absurd f.0
sound_end r p (Some i) (b ∷ w) f h e =
    let q : Place = behind r p (b ∷ w) in
    let x = and_parts (r.whole i (b ∷ w)) (no_brackets r q) e in
    record { fit = (tt, reached_behind r p i b w f.0 f.1); shallow = none_low q (and_parts (r.ends q.expects) (nat_le (length q.brackets) 0) x.1).1 }

ended_cond : (x : Bool) (ws vs : List Word) (ts us : List Token) → cond x (gives ws ts) (refused 6) ≡ gives vs us → (x ≡ true) × (ws ≡ vs)
ended_cond true ws vs ts us e = (refl, cc)
ended_cond false ws vs ts us e = cc

pub sound_closed : (r : Rules) (s : State) (v : Reading) → Sound r s → Closed r s v → Sound r v.state
sound_closed r s v h c =
    let ws : List Word = pending s.inside s.word in
    let e = ended_cond (finished r s.place s.inside s.word) ws v.ended (stand_for r s.place ws) v.given c.answered in
    subst (Sound r) (sym c.state) (subst (λ (xs : List Word). Sound r (at (behind_all r s.place xs) None [])) e.1 (sound_end r s.place s.inside s.word h.fit h.shallow e.0))
