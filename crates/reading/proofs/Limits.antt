-- With the limits: the machine accepts exactly the documents whose words keep them.
use Rattle.std.proofs.Common.{◌≡◌, ℕ, Bool, true, false, cond, ◌&&◌, List, [], ◌∷◌, ◌++◌, length, Some, None, Option, sym, refl, ap, ◌∙◌, subst, append_assoc, arith}
use Rattle.std.proofs.lemmas.List.{length-append}
use Rattle.std.proofs.lemmas.Bool.{false≢true, true≢false, and_parts, and_from, cond-true, leb-true, le-leb}
use Rattle.layout.specs.Tokens.{Token}
use Rattle.grammar.specs.Meaning.{Word, end, Answer, refused, gives, granted, words_of, taken, accepted, ended, words}
use Rattle.grammar.specs.Laws.{most_bytes}
use Rattle.rules.specs.declared.word.Inside.{Inside}
use Rattle.rules.specs.Rules.{Rules, Place, behind, behind_all, stand_for}
use Rattle.rules.specs.Machine.{State, Step, dead, on, step, next, run, judged, reply, means, fresh, first_place, pending, finished, no_brackets, grammar_of, short, all_short, low, all_low}
use Rattle.rules.specs.Lawful.{Lawful}
use Rattle.reading.specs.Accepts.{at, alive, step_words, accepts, words_from}
use Rattle.reading.specs.Judging.{KeptDocument, AcceptsDocuments, SixIfUnfinished}
use Rattle.reading.proofs.Rest.{Sane}
use Rattle.reading.proofs.Sound.{sound}
use Rattle.reading.proofs.Complete.{complete, complete_words}
use Rattle.reading.proofs.Fit.{Fit, fit_fresh, fit_next}
use Rattle.reading.proofs.Steps.{step_word, Went, went, goes, all_short_append, all_low_append}

-- what is accepted with the limits
pub record Kept (r : Rules) (s : State) (bs : List ℕ) : Type 0 where
  pub accepting : accepts r s bs ≡ true
  pub same_words : words (means r s) bs ≡ words_from r s bs
  pub shorts : all_short (words_from r s bs) ≡ true
  pub lows : all_low r s.place (words_from r s bs) ≡ true

-- no bracket is few brackets
low_none : (r : Rules) (p : Place) → no_brackets r p ≡ true → low p ≡ true
low_none r p h =
    let n = leb-true _ _ (and_parts (r.ends p.expects) _ h).1 in
    le-leb _ _ (omega arith)

pub pending_short : (io : Option Inside) (w : Word) → short w ≡ true → all_short (pending io w) ≡ true
pending_short None w h = refl
pending_short (Some i) w h = and_from (short w) true h refl

pub pending_low : (r : Rules) (p : Place) (io : Option Inside) (w : Word) → finished r p io w ≡ true → all_low r p (pending io w) ≡ true
pending_low r p None w h = refl
pending_low r p (Some i) w h = and_from (low (behind r p w)) true (low_none r (behind r p w) (and_parts (r.whole i w) _ h).1) refl

pub granted_end : (x : Bool) (ws : List Word) (ts : List Token) → granted (cond x (gives ws ts) (refused 6)) ≡ true → x ≡ true
granted_end true ws ts h = refl
granted_end false ws ts h = absurd (false≢true h)

-- a step that is not refused leaves a short word under way, and puts its words before those to come
pub next_short : (r : Rules) (s : State) (st : Step) → Went r s st → short (next r s st).word ≡ true
next_short r s dead w = absurd (false≢true w.lives)
next_short r s (on io v ws) w = (and_parts (short v) (all_short ws) w.shorts).0

step_short : (r : Rules) (s : State) (st : Step) (vs : List Word) → Went r s st → all_short vs ≡ true → all_short (step_words st ++ vs) ≡ true
step_short r s st vs w h =
    let q = and_parts (short (step_word st)) (all_short (step_words st)) w.shorts in
    all_short_append (step_words st) vs ∙ and_from (all_short (step_words st)) (all_short vs) q.1 h

step_low : (r : Rules) (s : State) (st : Step) (vs : List Word) → Went r s st → all_low r (next r s st).place vs ≡ true → all_low r s.place (step_words st ++ vs) ≡ true
step_low r s dead vs w h = absurd (false≢true w.lives)
step_low r s (on io v ws) vs w h = all_low_append r s.place ws vs ∙ and_from (all_low r s.place ws) (all_low r (behind_all r s.place ws) vs) w.lows h

pub kept : (r : Rules) (s : State) (bs : List ℕ) → short s.word ≡ true → accepted (means r s) bs ≡ true → Kept r s bs
kept r s [] small h =
    let ws : List Word = pending s.inside s.word in
    let ts : List Token = stand_for r s.place ws in
    let f = granted_end (finished r s.place s.inside s.word) ws ts h in
    record {
      accepting = f;
      same_words = ap words_of (cond-true (finished r s.place s.inside s.word) (gives ws ts) (refused 6) f);
      shorts = pending_short s.inside s.word small;
      lows = pending_low r s.place s.inside s.word f;
    }
kept r s (b ∷ bs) small h =
    let st : Step = step r s b in
    let s' : State = next r s st in
    let p = and_parts (taken (means r s) (b ∷ bs)) (granted (reply r (run r s' bs) end)) h in
    let q = and_parts (granted (judged r s st)) (taken (means r s') bs) p.0 in
    let w = went r s st q.0 in
    let k = kept r s' bs (next_short r s st w) (and_from (taken (means r s') bs) (granted (reply r (run r s' bs) end)) q.1 p.1) in
    record {
      accepting = and_from (alive st) (accepts r s' bs) w.lives k.accepting;
      same_words = append_assoc (words_of (judged r s st)) (ended (means r s') bs) (words_of (reply r (run r s' bs) end))
          ∙ (ap (λ (a : Answer). words_of a ++ words (means r s') bs) w.answered ∙ ap (λ (vs : List Word). step_words st ++ vs) k.same_words);
      shorts = step_short r s st (words_from r s' bs) w k.shorts;
      lows = step_low r s st (words_from r s' bs) w k.lows;
    }

-- the word under way begins the next word to be ended, so it is short if that is
begun_short : (w tail : Word) (ws : List Word) → all_short ((w ++ tail) ∷ ws) ≡ true → short w ≡ true
begun_short w tail ws h =
    let n = leb-true _ _ (and_parts (short (w ++ tail)) (all_short ws) h).0 in
    let e = length-append w tail in
    le-leb (length w) most_bytes (omega arith)

under_way_short : (r : Rules) → Lawful r → (p : Place) (io : Option Inside) (w : Word) (bs : List ℕ) → Sane r p io w → accepts r (at p io w) bs ≡ true → all_short (words_from r (at p io w) bs) ≡ true → short w ≡ true
under_way_short r l p None [] bs sane a h = refl
under_way_short r l p None (b ∷ w) bs sane a h = absurd sane
under_way_short r l p (Some i) w bs sane a h =
    let g = sound r l bs p (Some i) w sane a in
    begun_short w g.tail g.more (sym (ap all_short g.words_are) ∙ h)

-- a living step whose words, and the words to come, keep the limits is not refused
granted_step : (r : Rules) → Lawful r → (s : State) (st : Step) (bs : List ℕ) → Fit r (next r s st) → alive st ≡ true → accepts r (next r s st) bs ≡ true
    → all_short (step_words st ++ words_from r (next r s st) bs) ≡ true → all_low r s.place (step_words st ++ words_from r (next r s st) bs) ≡ true
    → (granted (judged r s st) ≡ true) × (all_short (words_from r (next r s st) bs) ≡ true) × (all_low r (next r s st).place (words_from r (next r s st) bs) ≡ true)
granted_step r l s dead bs f a acc x y = absurd (false≢true a)
granted_step r l s (on io w ws) bs f a acc x y =
    let p : Place = behind_all r s.place ws in
    let vs : List Word = words_from r (at p io w) bs in
    let xs = and_parts (all_short ws) (all_short vs) (sym (all_short_append ws vs) ∙ x) in
    let ys = and_parts (all_low r s.place ws) (all_low r p vs) (sym (all_low_append r s.place ws vs) ∙ y) in
    let small = under_way_short r l p io w bs f.0 acc xs.1 in
    (goes r s (on io w ws) refl (and_from (short w) (all_short ws) small xs.0) ys.0, xs.1, ys.1)

pub keeps : (r : Rules) → Lawful r → (s : State) (bs : List ℕ) → Fit r s → accepts r s bs ≡ true → all_short (words_from r s bs) ≡ true → all_low r s.place (words_from r s bs) ≡ true → accepted (means r s) bs ≡ true
keeps r l s [] f a x y =
    let ws : List Word = pending s.inside s.word in
    ap granted (cond-true (finished r s.place s.inside s.word) (gives ws (stand_for r s.place ws)) (refused 6) a)
keeps r l s (b ∷ bs) f a x y =
    let st : Step = step r s b in
    let s' : State = next r s st in
    let q = and_parts (alive st) (accepts r s' bs) a in
    let f' = fit_next r s b f in
    let g = granted_step r l s st bs f' q.0 q.1 x y in
    let k = and_parts (taken (means r s') bs) (granted (reply r (run r s' bs) end)) (keeps r l s' bs f' q.1 g.1 g.2) in
    and_from (taken (means r s) (b ∷ bs)) (granted (reply r (run r s' bs) end)) (and_from (granted (judged r s st)) (taken (means r s') bs) g.0 k.0) k.1

pub accepts_documents : (r : Rules) → Lawful r → AcceptsDocuments r
accepts_documents r l bs ws =
    (λ h same. document h same, λ d. accepting d)
  where
    document : accepted (grammar_of r) bs ≡ true → words (grammar_of r) bs ≡ ws → KeptDocument r ws bs
    document h same =
        let k = kept r (fresh r) bs refl h in
        let e : words_from r (fresh r) bs ≡ ws = sym k.same_words ∙ same in
        let d = sound r l bs (first_place r) None [] tt k.accepting in
        subst (λ (vs : List Word). KeptDocument r vs bs) e
        (record { written = d.0; sentence = d.1; limits = and_from (all_short (words_from r (fresh r) bs)) (all_low r (first_place r) (words_from r (fresh r) bs)) k.shorts k.lows })

    accepting : KeptDocument r ws bs → (accepted (grammar_of r) bs ≡ true) × (words (grammar_of r) bs ≡ ws)
    accepting d =
        let t = complete r l bs (first_place r) None [] ws tt (d.written, d.sentence) in
        let same = complete_words r l bs (first_place r) ws d.written d.sentence in
        let m = and_parts (all_short ws) (all_low r (first_place r) ws) d.limits in
        let a = keeps r l (fresh r) bs (fit_fresh r) t.0 (ap all_short same ∙ m.0) (ap (all_low r (first_place r)) same ∙ m.1) in
        (a, (kept r (fresh r) bs refl a).same_words ∙ same)

-- the end
ends_six : (x : Bool) (ws : List Word) (ts : List Token) → granted (cond x (gives ws ts) (refused 6)) ≡ false → cond x (gives ws ts) (refused 6) ≡ refused 6
ends_six true ws ts h = absurd (true≢false h)
ends_six false ws ts h = refl

pub six_if_unfinished : (r : Rules) → SixIfUnfinished r
six_if_unfinished r bs h =
    let s : State = run r (fresh r) bs in
    let ws : List Word = pending s.inside s.word in
    let same : accepted (grammar_of r) bs ≡ granted (reply r s end) = ap (λ (x : Bool). x && granted (reply r s end)) h in
    (λ e. same ∙ ap granted e, λ e. ends_six (finished r s.place s.inside s.word) ws (stand_for r s.place ws) (sym same ∙ e))
