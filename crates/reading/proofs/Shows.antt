-- The machine shows the laws of a grammar.
use Rattle.std.proofs.Common.{◌≡◌, ℕ, ◌≤◌, Bool, true, false, cond, ◌&&◌, eqb, leb, List, [], ◌∷◌, ◌++◌, length, Some, None, Option, sym, refl, ap, ◌∙◌, subst, ⊎_elim, arith}
use Rattle.std.proofs.lemmas.List.{length-append}
use Rattle.std.proofs.lemmas.Bool.{both_ways, false≢true, true≢false, and_parts, and_from, cases_Bool, cond-false, eqb-true, leb-true}
use Rattle.lines.specs.Lines.{newlines}
use Rattle.lines.proofs.Joins.{newlines_append}
use Rattle.layout.specs.Tokens.{Token, nest}
use Rattle.layout.specs.Writings.{Choice, free_writing}
use Rattle.grammar.specs.Meaning.{Word, Next, byte, end, Answer, refused, gives, granted, words_of, tokens_of, taken, accepted, ended, given, words, tokens}
use Rattle.grammar.specs.Laws.{Laws, Reads, Bounded, AllFine, Nested, most_tokens}
use Rattle.rules.specs.declared.word.Inside.{Inside}
use Rattle.rules.specs.declared.word.Begin.{Begin}
use Rattle.rules.specs.declared.word.Begin.TheVariants.{Blank, Sole, Starts, Never as NeverBegins}
use Rattle.rules.specs.declared.word.Turn.{Turn}
use Rattle.rules.specs.declared.word.Turn.TheVariants.{Stays, Closes, Never as NeverTurns}
use Rattle.rules.specs.Rules.{Rules, Place, admits, behind, behind_all, stand_for}
use Rattle.rules.specs.Machine.{State, Step, dead, on, begun, between, turned, ending, stepped, step, next, run, judged, reply, means, fresh, first_place, pending, finished, no_brackets, grammar_of, short, all_short, all_low}
use Rattle.rules.specs.Language.{WrittenBy, is_blank, parses}
use Rattle.rules.specs.Lawful.{Lawful, Begun, first_byte, one_more}
use Rattle.rules.proofs.Writing.{all_spelled}
use Rattle.reading.specs.Accepts.{step_words}
use Rattle.reading.proofs.Rest.{Live, Sane}
use Rattle.reading.proofs.Fit.{Fit, fit_fresh, fit_next}
use Rattle.reading.proofs.Steps.{Went, went, all_short_append, all_low_append}
use Rattle.reading.proofs.Judges.{fit_run}
use Rattle.reading.proofs.Limits.{next_short, pending_short, pending_low, accepts_documents}
use Rattle.reading.proofs.Rereads.{written_free}
use Rattle.reading.proofs.Tokens.{stand_append, behind_append, nest_words, PlainWord, PlainWords, plain_append, good_words, few_words}

-- no byte of a word is a newline
plain_byte : (b : ℕ) → (b ≡ 0x0A → ⊥) → newlines (b ∷ []) ≡ 0
plain_byte b h = ⊎_elim (λ e. absurd (h (eqb-true b 0x0A e))) (λ e. cond-false (eqb b 0x0A) 1 0 e) (cases_Bool (eqb b 0x0A))

begins_plain : (r : Rules) → Lawful r → (b : ℕ) (k : Begin) → r.begins b ≡ k → is_blank k ≡ false → newlines (b ∷ []) ≡ 0
begins_plain r l b k e h = plain_byte b (λ same. both_ways (is_blank k) h (ap is_blank (sym e ∙ (ap r.begins same ∙ l.newline_is_blank))))

abbrev pub is_never : Turn → Bool
is_never (Stays j) = false
is_never Closes = false
is_never NeverTurns = true

turns_plain : (r : Rules) → Lawful r → (i : Inside) (w : Word) (b : ℕ) (k : Turn) → r.turns i w b ≡ k → is_never k ≡ false → newlines (b ∷ []) ≡ 0
turns_plain r l i w b k e h = plain_byte b (λ same. both_ways (is_never k) h (ap is_never (sym e ∙ (ap (r.turns i w) same ∙ l.no_newline i w))))

longer_plain : (w : Word) (b : ℕ) → newlines w ≡ 0 → newlines (b ∷ []) ≡ 0 → PlainWord (w ++ b ∷ [])
longer_plain w b h k =
    let e = length-append w (b ∷ []) in
    let n = newlines_append w (b ∷ []) in
    (omega arith, omega arith)

begun_plain : (r : Rules) → Lawful r → (i : Inside) (w : Word) → Begun r i w → PlainWord w
begun_plain r l i w (first_byte j b e) = (omega arith, begins_plain r l b (Starts j) e refl)
begun_plain r l i w (one_more j k v u b g e same) =
    let h = begun_plain r l j v g in
    subst PlainWord (sym same) (longer_plain v b h.1 (turns_plain r l j v b (Stays k) e refl))

-- the words that a step ends
plain_begun : (r : Rules) → Lawful r → (b : ℕ) (k : Begin) (a : Bool) → r.begins b ≡ k → PlainWords (step_words (begun a k b))
plain_begun r l b Blank a e = tt
plain_begun r l b Sole true e = ((omega arith, begins_plain r l b Sole e refl), tt)
plain_begun r l b Sole false e = tt
plain_begun r l b (Starts i) true e = tt
plain_begun r l b (Starts i) false e = tt
plain_begun r l b NeverBegins a e = tt

plain_ending : (w : Word) (st : Step) → PlainWord w → PlainWords (step_words st) → PlainWords (step_words (ending w st))
plain_ending w dead h k = tt
plain_ending w (on io v ws) h k = (h, k)

plain_cond : (t : Bool) (st : Step) → PlainWords (step_words st) → PlainWords (step_words (cond t st dead))
plain_cond true st h = h
plain_cond false st h = tt

plain_turned : (r : Rules) → Lawful r → (p : Place) (i : Inside) (w : Word) (c : ℕ) → PlainWord w → (k : Turn) → r.turns i w c ≡ k → PlainWords (step_words (turned r p i w c k))
plain_turned r l p i w c h (Stays j) e = tt
plain_turned r l p i w c h Closes e = (longer_plain w c h.1 (turns_plain r l i w c Closes e refl), tt)
plain_turned r l p i w c h NeverTurns e =
    let st : Step = between r (behind r p w) c in
    plain_cond (r.whole i w && r.delimits c) (ending w st) (plain_ending w st h (plain_begun r l c (r.begins c) (admits r (behind r p w) c) refl))

live_plain : (r : Rules) → Lawful r → (p : Place) (i : Inside) (w : Word) → Live r p i w → PlainWord w
live_plain r l p i [] live = absurd live
live_plain r l p i (b ∷ v) live = begun_plain r l i (b ∷ v) live.0

pub plain_stepped : (r : Rules) → Lawful r → (p : Place) (io : Option Inside) (w : Word) (b : ℕ) → Sane r p io w → PlainWords (step_words (stepped r p io w b))
plain_stepped r l p None w b sane = plain_begun r l b (r.begins b) (admits r p b) refl
plain_stepped r l p (Some i) w b sane = plain_turned r l p i w b (live_plain r l p i w sane) (r.turns i w b) refl

pub plain_pending : (r : Rules) → Lawful r → (p : Place) (io : Option Inside) (w : Word) → Sane r p io w → PlainWords (pending io w)
plain_pending r l p None w sane = tt
plain_pending r l p (Some i) w sane = (live_plain r l p i w sane, tt)

-- a step ends at most two words
few_begun : (b : ℕ) (k : Begin) (a : Bool) → length (step_words (begun a k b)) ≤ 1
few_begun b Blank a = omega arith
few_begun b Sole true = omega arith
few_begun b Sole false = omega arith
few_begun b (Starts i) true = omega arith
few_begun b (Starts i) false = omega arith
few_begun b NeverBegins a = omega arith

few_ending : (w : Word) (st : Step) → length (step_words st) ≤ 1 → length (step_words (ending w st)) ≤ 2
few_ending w dead h = omega arith
few_ending w (on io v ws) h = omega arith

few_cond : (t : Bool) (st : Step) → length (step_words st) ≤ 2 → length (step_words (cond t st dead)) ≤ 2
few_cond true st h = h
few_cond false st h = omega arith

few_turned : (r : Rules) (p : Place) (i : Inside) (w : Word) (c : ℕ) (k : Turn) → length (step_words (turned r p i w c k)) ≤ 2
few_turned r p i w c (Stays j) = omega arith
few_turned r p i w c Closes = omega arith
few_turned r p i w c NeverTurns =
    let st : Step = between r (behind r p w) c in
    few_cond (r.whole i w && r.delimits c) (ending w st) (few_ending w st (few_begun c (r.begins c) (admits r (behind r p w) c)))

few_stepped : (r : Rules) (p : Place) (io : Option Inside) (w : Word) (b : ℕ) → length (step_words (stepped r p io w b)) ≤ 2
few_stepped r p None w b = let n = few_begun b (r.begins b) (admits r p b) in omega arith
few_stepped r p (Some i) w b = few_turned r p i w b (r.turns i w b)

few_pending : (io : Option Inside) (w : Word) → length (pending io w) ≤ 2
few_pending None w = omega arith
few_pending (Some i) w = omega arith

-- words within the limits, in what was given or is answered
pub record GoodWords (r : Rules) (p : Place) (ws : List Word) : Type 0 where
  pub plain : PlainWords ws
  pub shorts : all_short ws ≡ true
  pub lows : all_low r p ws ≡ true

good_append : (r : Rules) (p : Place) (ws vs : List Word) → GoodWords r p ws → GoodWords r (behind_all r p ws) vs → GoodWords r p (ws ++ vs)
good_append r p ws vs g h = record {
  plain = plain_append ws vs g.plain h.plain;
  shorts = all_short_append ws vs ∙ and_from (all_short ws) (all_short vs) g.shorts h.shorts;
  lows = all_low_append r p ws vs ∙ and_from (all_low r p ws) (all_low r (behind_all r p ws) vs) g.lows h.lows;
}

record Replied (r : Rules) (p : Place) (a : Answer) : Type 0 where
  good : GoodWords r p (words_of a)
  stands : tokens_of a ≡ stand_for r p (words_of a)
  few : length (words_of a) ≤ 2

replied_refused : (r : Rules) (p : Place) (a : Answer) → granted a ≡ false → Replied r p a
replied_refused r p (refused n) h = record { good = record { plain = tt; shorts = refl; lows = refl }; stands = refl; few = omega arith }
replied_refused r p (gives ws ts) h = absurd (true≢false h)

step_good : (r : Rules) → Lawful r → (s : State) (b : ℕ) → Fit r s → Went r s (step r s b) → GoodWords r s.place (step_words (step r s b))
step_good r l s b f w = record {
  plain = plain_stepped r l s.place s.inside s.word b f.0;
  shorts = (and_parts _ (all_short (step_words (step r s b))) w.shorts).1;
  lows = w.lows;
}

replied_byte : (r : Rules) → Lawful r → (s : State) (b : ℕ) → Fit r s → granted (judged r s (step r s b)) ≡ true → Replied r s.place (judged r s (step r s b))
replied_byte r l s b f h =
    let w = went r s (step r s b) h in
    subst (Replied r s.place) (sym w.answered)
    (record { good = step_good r l s b f w; stands = refl; few = few_stepped r s.place s.inside s.word b })

replied_end : (r : Rules) → Lawful r → (s : State) → Fit r s → short s.word ≡ true → (x : Bool) → finished r s.place s.inside s.word ≡ x
    → Replied r s.place (cond x (gives (pending s.inside s.word) (stand_for r s.place (pending s.inside s.word))) (refused 6))
replied_end r l s f small true e = record {
  good = record { plain = plain_pending r l s.place s.inside s.word f.0; shorts = pending_short s.inside s.word small; lows = pending_low r s.place s.inside s.word e };
  stands = refl;
  few = few_pending s.inside s.word;
}
replied_end r l s f small false e = replied_refused r s.place (refused 6) refl

replied : (r : Rules) → Lawful r → (s : State) (n : Next) → Fit r s → short s.word ≡ true → Replied r s.place (reply r s n)
replied r l s (byte b) f small = ⊎_elim (replied_byte r l s b f) (replied_refused r s.place (judged r s (step r s b))) (cases_Bool (granted (judged r s (step r s b))))
replied r l s end f small = replied_end r l s f small (finished r s.place s.inside s.word) refl

-- what bytes that are taken have given, and where they lead
pub record Gave (r : Rules) (s : State) (bs : List ℕ) : Type 0 where
  pub good : GoodWords r s.place (ended (means r s) bs)
  pub stands : given (means r s) bs ≡ stand_for r s.place (ended (means r s) bs)
  pub leads : (run r s bs).place ≡ behind_all r s.place (ended (means r s) bs)
  pub small : short (run r s bs).word ≡ true

next_place : (r : Rules) (s : State) (st : Step) → Went r s st → (next r s st).place ≡ behind_all r s.place (words_of (judged r s st))
next_place r s dead w = absurd (false≢true w.lives)
next_place r s (on io v ws) w = ap (λ (a : Answer). behind_all r s.place (words_of a)) (sym w.answered)

gave_step : (r : Rules) (s : State) (b : ℕ) (bs : List ℕ) → Replied r s.place (judged r s (step r s b)) → (next r s (step r s b)).place ≡ behind_all r s.place (words_of (judged r s (step r s b))) → Gave r (next r s (step r s b)) bs → Gave r s (b ∷ bs)
gave_step r s b bs a e g =
    let s' : State = next r s (step r s b) in
    let ws : List Word = words_of (judged r s (step r s b)) in
    let vs : List Word = ended (means r s') bs in
    record {
      good = good_append r s.place ws vs a.good (subst (λ (q : Place). GoodWords r q vs) e g.good);
      stands = ap (λ (ts : List Token). tokens_of (judged r s (step r s b)) ++ ts) (g.stands ∙ ap (λ (q : Place). stand_for r q vs) e)
          ∙ (ap (λ (ts : List Token). ts ++ stand_for r (behind_all r s.place ws) vs) a.stands ∙ sym (stand_append r s.place ws vs));
      leads = g.leads ∙ (ap (λ (q : Place). behind_all r q vs) e ∙ sym (behind_append r s.place ws vs));
      small = g.small;
    }

pub gave : (r : Rules) → Lawful r → (s : State) (bs : List ℕ) → Fit r s → short s.word ≡ true → taken (means r s) bs ≡ true → Gave r s bs
gave r l s [] f small h = record { good = record { plain = tt; shorts = refl; lows = refl }; stands = refl; leads = refl; small = small }
gave r l s (b ∷ bs) f small h =
    let st : Step = step r s b in
    let q = and_parts (granted (judged r s st)) (taken (means r (next r s st)) bs) h in
    let w = went r s st q.0 in
    gave_step r s b bs (replied_byte r l s b f q.0) (next_place r s st w) (gave r l (next r s st) bs (fit_next r s b f) (next_short r s st w) q.1)

-- all words and tokens of bytes taken, and of what comes next
record Whole (r : Rules) (bs : List ℕ) (n : Next) : Type 0 where
  good : GoodWords r (first_place r) (ended (grammar_of r) bs ++ words_of ((grammar_of r).answer bs n))
  stands : given (grammar_of r) bs ++ tokens_of ((grammar_of r).answer bs n) ≡ stand_for r (first_place r) (ended (grammar_of r) bs ++ words_of ((grammar_of r).answer bs n))
  few : length (tokens_of ((grammar_of r).answer bs n)) ≤ most_tokens

whole : (r : Rules) → Lawful r → (bs : List ℕ) (n : Next) → taken (grammar_of r) bs ≡ true → Whole r bs n
whole r l bs n h =
    let s : State = run r (fresh r) bs in
    let p : Place = first_place r in
    let g = gave r l (fresh r) bs (fit_fresh r) refl h in
    let a = replied r l s n (fit_run r (fresh r) bs (fit_fresh r)) g.small in
    let ws : List Word = ended (grammar_of r) bs in
    let vs : List Word = words_of (reply r s n) in
    let same = few_words r s.place vs in
    let few_tokens = ap (λ (ts : List Token). length ts) a.stands in
    let few_ended = a.few in
    record {
      good = good_append r p ws vs g.good (subst (λ (q : Place). GoodWords r q vs) g.leads a.good);
      stands = ap (λ (ts : List Token). given (grammar_of r) bs ++ ts) (a.stands ∙ ap (λ (q : Place). stand_for r q vs) g.leads)
          ∙ (ap (λ (ts : List Token). ts ++ stand_for r (behind_all r p ws) vs) g.stands ∙ sym (stand_append r p ws vs));
      few = omega arith;
    }

bounded : (r : Rules) → Lawful r → (bs : List ℕ) (n : Next) → taken (grammar_of r) bs ≡ true → Bounded (grammar_of r) bs n
bounded r l bs n h =
    let w = whole r l bs n h in
    let t = good_words r l (first_place r) (ended (grammar_of r) bs ++ words_of ((grammar_of r).answer bs n)) w.good.plain w.good.shorts w.good.lows in
    record { fine = subst AllFine (sym w.stands) t.fine; nested = subst (Nested 0) (sym w.stands) t.nested; few = w.few }

-- the tokens of a document stand for its words
tokens_stand : (r : Rules) → Lawful r → (bs : List ℕ) → accepted (grammar_of r) bs ≡ true → tokens (grammar_of r) bs ≡ stand_for r (first_place r) (words (grammar_of r) bs)
tokens_stand r l bs h = (whole r l bs end (and_parts (taken (grammar_of r) bs) _ h).0).stands

parses_end : (r : Rules) (p : Place) (ws : List Word) → parses r p ws ≡ true → no_brackets r (behind_all r p ws) ≡ true
parses_end r p [] h = h
parses_end r p ([] ∷ ws) h = absurd (false≢true h)
parses_end r p ((b ∷ w) ∷ ws) h = parses_end r (behind r p (b ∷ w)) ws (and_parts (admits r p b) _ h).1

balanced : (r : Rules) → Lawful r → (bs : List ℕ) → accepted (grammar_of r) bs ≡ true → nest 0 (tokens (grammar_of r) bs) ≡ 0
balanced r l bs h =
    let ws : List Word = words (grammar_of r) bs in
    let d = (accepts_documents r l bs ws).0 h refl in
    let q : Place = behind_all r (first_place r) ws in
    let n = leb-true (length q.brackets) 0 (and_parts (r.ends q.expects) (leb (length q.brackets) 0) (parses_end r (first_place r) ws d.sentence)).1 in
    let e : nest 0 (tokens (grammar_of r) bs) ≡ length q.brackets = ap (nest 0) (tokens_stand r l bs h) ∙ nest_words r (first_place r) ws in
    omega arith

reread : (r : Rules) → Lawful r → (bs : List ℕ) → accepted (grammar_of r) bs ≡ true → (choice : ℕ → Choice) → Reads (grammar_of r) (free_writing choice (tokens (grammar_of r) bs)) (words (grammar_of r) bs)
reread r l bs h choice =
    let ws : List Word = words (grammar_of r) bs in
    let d = (accepts_documents r l bs ws).0 h refl in
    let out : List ℕ = free_writing choice (tokens (grammar_of r) bs) in
    let wr = written_free r l choice (first_place r) ws (all_spelled r d.written) d.sentence in
    let k = (accepts_documents r l out ws).1 (record {
      written = subst (λ (ts : List Token). WrittenBy r ws (free_writing choice ts)) (sym (tokens_stand r l bs h)) wr;
      sentence = d.sentence;
      limits = d.limits;
    }) in
    record { accepts = k.0; same = k.1 }

pub shows_laws : (r : Rules) → Lawful r → Laws (grammar_of r)
shows_laws r l = record {
  rereads = reread r l;
  by_words = λ bs cs h k e. tokens_stand r l bs h ∙ (ap (stand_for r (first_place r)) e ∙ sym (tokens_stand r l cs k));
  balance = balanced r l;
  bounds = λ bs n h. bounded r l bs n h;
}
