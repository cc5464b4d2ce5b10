-- Refusal 3 comes exactly where no document of the language goes on.
use Rattle.std.proofs.Common.{◌≡◌, ℕ, Bool, true, false, cond, List, [], ◌∷◌, ◌++◌, None, sym, refl, ◌∙◌, subst, ⊎_elim, append_assoc}
use Rattle.std.proofs.lemmas.Bool.{both_ways, true≢false, and_parts, and_from, cases_Bool}
use Rattle.layout.specs.Tokens.{Token}
use Rattle.grammar.specs.Meaning.{Word, refused, gives, taken}
use Rattle.rules.specs.Rules.{Rules, stand_for}
use Rattle.rules.specs.Machine.{State, Step, dead, on, step, next, run, judged, fresh, first_place, grammar_of, all_short, all_low}
use Rattle.rules.specs.Language.{DocumentBy}
use Rattle.rules.specs.Lawful.{Lawful}
use Rattle.reading.specs.Accepts.{alive, accepts, words_from}
use Rattle.reading.specs.Judging.{Hopeless, ThreeIfHopeless}
use Rattle.reading.proofs.Sound.{sound}
use Rattle.reading.proofs.Complete.{complete}
use Rattle.reading.proofs.Fit.{Fit, fit_fresh, fit_next}
use Rattle.reading.proofs.Closing.{closing}
use Rattle.reading.proofs.Steps.{taken_accepts}

pub fit_run : (r : Rules) (s : State) (bs : List ℕ) → Fit r s → Fit r (run r s bs)
fit_run r s [] f = f
fit_run r s (b ∷ bs) f = fit_run r (next r s (step r s b)) bs (fit_next r s b f)

-- what is accepted from the beginning is a document, and every document is accepted
pub document_accepted : (r : Rules) → Lawful r → (bs : List ℕ) → DocumentBy r bs → accepts r (fresh r) bs ≡ true
document_accepted r l bs d = (complete r l bs (first_place r) None [] d.document_words tt (d.written, d.sentence)).0

pub accepted_document : (r : Rules) → Lawful r → (bs : List ℕ) → accepts r (fresh r) bs ≡ true → DocumentBy r bs
accepted_document r l bs h =
    let q = sound r l bs (first_place r) None [] tt h in
    record { document_words = words_from r (fresh r) bs; written = q.0; sentence = q.1 }

-- only a dead step is refused by 3
three_cond : (x y : Bool) (ws : List Word) (ts : List Token) → cond x (cond y (gives ws ts) (refused 5)) (refused 4) ≡ refused 3 → ⊥
three_cond true true ws ts e = cc
three_cond true false ws ts e = cc
three_cond false y ws ts e = cc

three_dead : (r : Rules) (s : State) (st : Step) → judged r s st ≡ refused 3 → alive st ≡ false
three_dead r s dead e = refl
three_dead r s (on io w ws) e = absurd (three_cond (all_short (w ∷ ws)) (all_low r s.place ws) ws (stand_for r s.place ws) e)

dead_three : (r : Rules) (s : State) (st : Step) → alive st ≡ false → judged r s st ≡ refused 3
dead_three r s dead h = refl
dead_three r s (on io w ws) h = absurd (true≢false h)

next_byte : (bs more : List ℕ) (b : ℕ) → (bs ++ b ∷ []) ++ more ≡ bs ++ b ∷ more
next_byte bs more b = append_assoc bs (b ∷ []) more

dead_hopeless : (r : Rules) → Lawful r → (bs : List ℕ) (b : ℕ) → taken (grammar_of r) bs ≡ true → alive (step r (run r (fresh r) bs) b) ≡ false → Hopeless r (bs ++ b ∷ [])
dead_hopeless r l bs b h gone more d =
    let s : State = run r (fresh r) bs in
    let a = document_accepted r l (bs ++ b ∷ more) (subst (DocumentBy r) (next_byte bs more b) d) in
    let on_it : accepts r s (b ∷ more) ≡ true = sym (taken_accepts r (fresh r) bs (b ∷ more) h) ∙ a in
    both_ways (alive (step r s b)) gone (and_parts (alive (step r s b)) _ on_it).0

alive_hopeful : (r : Rules) → Lawful r → (bs : List ℕ) (b : ℕ) → taken (grammar_of r) bs ≡ true → alive (step r (run r (fresh r) bs) b) ≡ true → Hopeless r (bs ++ b ∷ []) → ⊥
alive_hopeful r l bs b h lives hopeless =
    let s : State = run r (fresh r) bs in
    let s' : State = next r s (step r s b) in
    let f = fit_next r s b (fit_run r (fresh r) bs (fit_fresh r)) in
    let c = closing r l s'.place s'.inside s'.word f in
    let a : accepts r (fresh r) (bs ++ b ∷ c.0) ≡ true = taken_accepts r (fresh r) bs (b ∷ c.0) h ∙ and_from (alive (step r s b)) (accepts r s' c.0) lives c.1 in
    hopeless c.0 (subst (DocumentBy r) (sym (next_byte bs c.0 b)) (accepted_document r l (bs ++ b ∷ c.0) a))

pub three_if_hopeless : (r : Rules) → Lawful r → ThreeIfHopeless r
three_if_hopeless r l bs b h =
    let s : State = run r (fresh r) bs in (
      λ e. dead_hopeless r l bs b h (three_dead r s (step r s b) e),
      λ hopeless. ⊎_elim (λ lives. absurd (alive_hopeful r l bs b h lives hopeless)) (λ gone. dead_three r s (step r s b) gone) (cases_Bool (alive (step r s b))),
    )
