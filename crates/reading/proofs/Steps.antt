-- A step that is not refused: what it ends and gives, and how it keeps the limits.
use Rattle.std.proofs.Common.{◌≡◌, ℕ, Bool, true, false, cond, ◌&&◌, List, [], ◌∷◌, ◌++◌, sym, refl, ap, ◌∙◌}
use mathlib.Core.Bool.{and_assoc}
use Rattle.std.proofs.lemmas.Bool.{false≢true, and_parts, cond-true}
use Rattle.layout.specs.Tokens.{Token}
use Rattle.grammar.specs.Meaning.{Word, refused, gives, granted, taken}
use Rattle.rules.specs.Rules.{Rules, Place, behind, behind_all, stand_for}
use Rattle.rules.specs.Machine.{State, Step, dead, on, step, next, run, judged, means, short, all_short, low, all_low}
use Rattle.reading.specs.Accepts.{alive, step_words, accepts}

-- the word under way behind a step
abbrev pub step_word : Step → Word
step_word dead = []
step_word (on io w ws) = w

pub record Went (r : Rules) (s : State) (st : Step) : Type 0 where
  pub lives : alive st ≡ true
  pub shorts : all_short (step_word st ∷ step_words st) ≡ true
  pub lows : all_low r s.place (step_words st) ≡ true
  pub answered : judged r s st ≡ gives (step_words st) (stand_for r s.place (step_words st))

granted_cond : (x y : Bool) (ws : List Word) (ts : List Token) → granted (cond x (cond y (gives ws ts) (refused 5)) (refused 4)) ≡ true → (x ≡ true) × (y ≡ true)
granted_cond true true ws ts h = (refl, refl)
granted_cond true false ws ts h = absurd (false≢true h)
granted_cond false y ws ts h = absurd (false≢true h)

gives_cond : (x y : Bool) (ws : List Word) (ts : List Token) → x ≡ true → y ≡ true → cond x (cond y (gives ws ts) (refused 5)) (refused 4) ≡ gives ws ts
gives_cond x y ws ts ex ey = cond-true x (cond y (gives ws ts) (refused 5)) (refused 4) ex ∙ cond-true y (gives ws ts) (refused 5) ey

pub went : (r : Rules) (s : State) (st : Step) → granted (judged r s st) ≡ true → Went r s st
went r s dead h = absurd (false≢true h)
went r s (on io w ws) h =
    let ts : List Token = stand_for r s.place ws in
    let f = granted_cond (all_short (w ∷ ws)) (all_low r s.place ws) ws ts h in
    record { lives = refl; shorts = f.0; lows = f.1; answered = gives_cond (all_short (w ∷ ws)) (all_low r s.place ws) ws ts f.0 f.1 }

pub goes : (r : Rules) (s : State) (st : Step) → alive st ≡ true → all_short (step_word st ∷ step_words st) ≡ true → all_low r s.place (step_words st) ≡ true → granted (judged r s st) ≡ true
goes r s dead a x y = absurd (false≢true a)
goes r s (on io w ws) a x y = ap granted (gives_cond (all_short (w ∷ ws)) (all_low r s.place ws) ws (stand_for r s.place ws) x y)

-- bytes that are taken are not refused, limits aside, and lead to the state behind them
pub taken_accepts : (r : Rules) (s : State) (bs cs : List ℕ) → taken (means r s) bs ≡ true → accepts r s (bs ++ cs) ≡ accepts r (run r s bs) cs
taken_accepts r s [] cs h = refl
taken_accepts r s (b ∷ bs) cs h =
    let st : Step = step r s b in
    let p = and_parts (granted (judged r s st)) (taken (means r (next r s st)) bs) h in
    ap (λ (x : Bool). x && accepts r (next r s st) (bs ++ cs)) (went r s st p.0).lives ∙ taken_accepts r (next r s st) bs cs p.1

-- limits over lists of words
pub all_short_append : (ws vs : List Word) → all_short (ws ++ vs) ≡ (all_short ws && all_short vs)
all_short_append [] vs = refl
all_short_append (w ∷ ws) vs = ap (λ (x : Bool). short w && x) (all_short_append ws vs) ∙ sym (and_assoc (short w) (all_short ws) (all_short vs))

pub all_low_append : (r : Rules) (p : Place) (ws vs : List Word) → all_low r p (ws ++ vs) ≡ (all_low r p ws && all_low r (behind_all r p ws) vs)
all_low_append r p [] vs = refl
all_low_append r p (w ∷ ws) vs = ap (λ (x : Bool). low (behind r p w) && x) (all_low_append r (behind r p w) ws vs) ∙ sym (and_assoc (low (behind r p w)) (all_low r (behind r p w) ws) (all_low r (behind_all r (behind r p w) ws) vs))
