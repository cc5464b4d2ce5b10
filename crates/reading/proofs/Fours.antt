-- Refusal 4 comes exactly at a word's 256th byte.
use Rattle.std.proofs.Common.{◌≡◌, ℕ, suc, ◌+◌, ◌-◌, ◌<◌, ◌≤◌, Bool, true, false, cond, ◌&&◌, ◌⊎◌, List, [], ◌∷◌, ◌++◌, length, Some, None, Option, sym, refl, ap, ◌∙◌, subst, inl, inr, ⊎_elim, arith}
use Rattle.std.proofs.lemmas.List.{append-nil, length-append}
use Rattle.std.proofs.lemmas.Bool.{both_ways, false≢true, true≢false, and_parts, and_from, and_left, cases_Bool, cond-true, cond-false, leb-true, leb-false, lt-leb}
use Rattle.layout.specs.Tokens.{Token}
use Rattle.grammar.specs.Meaning.{Word, refused, gives, taken}
use Rattle.grammar.specs.Laws.{most_bytes}
use Rattle.rules.specs.declared.word.Inside.{Inside}
use Rattle.rules.specs.declared.word.Begin.{Begin}
use Rattle.rules.specs.declared.word.Begin.TheVariants.{Blank, Sole, Starts, Never as NeverBegins}
use Rattle.rules.specs.declared.word.Turn.{Turn}
use Rattle.rules.specs.declared.word.Turn.TheVariants.{Stays, Closes, Never as NeverTurns}
use Rattle.rules.specs.Rules.{Rules, Place, admits, behind, stand_for}
use Rattle.rules.specs.Machine.{State, Step, dead, on, begun, between, turned, ending, stepped, run, judged, fresh, first_place, grammar_of, short, all_short, all_low}
use Rattle.rules.specs.Language.{DocumentBy, Follows, spelled_on, spelled_turn, none_left}
use Rattle.rules.specs.Lawful.{Lawful}
use Rattle.reading.specs.Places.{Placed, places}
use Rattle.reading.specs.Accepts.{step_words, accepts, words_from, placed_from}
use Rattle.reading.specs.Judging.{ByteOfWord, FourIfLong}
use Rattle.reading.proofs.Rest.{Live, Sane, Rest, same_head}
use Rattle.reading.proofs.Sound.{sound}
use Rattle.reading.proofs.Complete.{complete, rest_places, loose_follows}
use Rattle.reading.proofs.Fit.{Fit, fit_fresh}
use Rattle.reading.proofs.Steps.{step_word, taken_accepts}
use Rattle.reading.proofs.Judges.{fit_run, document_accepted}
use Rattle.reading.proofs.Shows.{gave, is_never}
use Rattle.reading.proofs.Bounds.{so_far, placed_append, EndBy, BeginAt, begin_later, places_begin, behind_bytes}

-- A document that goes on behind bytes taken: what may come, and where its words stand.
pub record GoesOn (r : Rules) (bs : List ℕ) (b : ℕ) (more : List ℕ) (ps : List Placed) : Type 0 where
  pub fit : Fit r (run r (fresh r) bs)
  pub small : short (run r (fresh r) bs).word ≡ true
  pub within : length (run r (fresh r) bs).word ≤ length bs
  pub words_to_come : List Word
  pub rest : Rest r (run r (fresh r) bs).place (run r (fresh r) bs).inside (run r (fresh r) bs).word words_to_come (b ∷ more)
  pub ended_before : EndBy (length bs) (so_far r (fresh r) 0 bs)
  pub all_places : ps ≡ so_far r (fresh r) 0 bs ++ rest_places r (run r (fresh r) bs).place (run r (fresh r) bs).inside (run r (fresh r) bs).word words_to_come (b ∷ more) rest (length bs)

pub goes_on : (r : Rules) → Lawful r → (bs : List ℕ) (b : ℕ) (more : List ℕ) → taken (grammar_of r) bs ≡ true → (d : DocumentBy r (bs ++ b ∷ more)) → GoesOn r bs b more (places 0 d.written)
goes_on r l bs b more h d =
    let s : State = run r (fresh r) bs in
    let f = fit_run r (fresh r) bs (fit_fresh r) in
    let a : accepts r s (b ∷ more) ≡ true = sym (taken_accepts r (fresh r) bs (b ∷ more) h) ∙ document_accepted r l (bs ++ b ∷ more) d in
    let ws : List Word = words_from r s (b ∷ more) in
    let g : Rest r s.place s.inside s.word ws (b ∷ more) = sound r l (b ∷ more) s.place s.inside s.word f.0 a in
    let n = behind_bytes r l (fresh r) 0 bs (fit_fresh r) (omega arith) in
    let zero_more : 0 + length bs ≡ length bs = omega arith in
    record {
      fit = f;
      small = (gave r l (fresh r) bs (fit_fresh r) refl h).small;
      within = subst (λ (m : ℕ). length s.word ≤ m) zero_more n.fits;
      words_to_come = ws;
      rest = g;
      ended_before = subst (λ (m : ℕ). EndBy m (so_far r (fresh r) 0 bs)) zero_more n.ends;
      all_places = sym ((complete r l (bs ++ b ∷ more) (first_place r) None [] d.document_words tt (d.written, d.sentence)).1 0)
          ∙ (placed_append r (fresh r) 0 bs (b ∷ more) ∙ ap (λ (m : ℕ). so_far r (fresh r) 0 bs ++ placed_from r s m (b ∷ more)) zero_more ∙ ap (λ (xs : List Placed). so_far r (fresh r) 0 bs ++ xs) ((complete r l (b ∷ more) s.place s.inside s.word ws f.0 g).1 (length bs)));
    }

-- the byte belongs to no word that has ended, nor, past its first byte, to one still to begin
byte_cases : (n j : ℕ) (xs ys : List Placed) → ByteOfWord n j (xs ++ ys) → ByteOfWord n j xs ⊎ ByteOfWord n j ys
byte_cases n j [] ys h = inr h
byte_cases n j (x ∷ xs) ys (inl h) = inl (inl h)
byte_cases n j (x ∷ xs) ys (inr h) = ⊎_elim (λ k. inl (inr k)) (λ k. inr k) (byte_cases n j xs ys h)

byte_right : (n j : ℕ) (xs ys : List Placed) → ByteOfWord n j ys → ByteOfWord n j (xs ++ ys)
byte_right n j [] ys h = h
byte_right n j (x ∷ xs) ys h = inr (byte_right n j xs ys h)

not_ended : (n j : ℕ) (xs : List Placed) → EndBy n xs → ByteOfWord n j xs → ⊥
not_ended n j [] e h = h
not_ended n j (x ∷ xs) e (inl h) = let a = e.0 in let b = h.0 in let c = h.1 in omega arith
not_ended n j (x ∷ xs) e (inr h) = not_ended n j xs e.1 h

not_to_come : (n j : ℕ) (xs : List Placed) → 2 ≤ j → BeginAt n xs → ByteOfWord n j xs → ⊥
not_to_come n j [] l e h = h
not_to_come n j (x ∷ xs) l e (inl h) = let a = e.0 in let b = h.0 in omega arith
not_to_come n j (x ∷ xs) l e (inr h) = not_to_come n j xs l e.1 h

-- a step that ends and leaves short words is not refused by 4
four_low : (y : Bool) (ws : List Word) (ts : List Token) → cond y (gives ws ts) (refused 5) ≡ refused 4 → ⊥
four_low true ws ts e = cc
four_low false ws ts e = cc

pub short_not_four : (r : Rules) (s : State) (st : Step) → all_short (step_word st ∷ step_words st) ≡ true → judged r s st ≡ refused 4 → ⊥
short_not_four r s dead h e = cc
short_not_four r s (on io w ws) h e =
    let ts : List Token = stand_for r s.place ws in
    let y : Bool = all_low r s.place ws in
    four_low y ws ts (sym (cond-true (all_short (w ∷ ws)) (cond y (gives ws ts) (refused 5)) (refused 4) h) ∙ e)

pub long_four : (r : Rules) (s : State) (io : Option Inside) (w : Word) (ws : List Word) → all_short (w ∷ ws) ≡ false → judged r s (on io w ws) ≡ refused 4
long_four r s io w ws h = cond-false (all_short (w ∷ ws)) (cond (all_low r s.place ws) (gives ws (stand_for r s.place ws)) (refused 5)) (refused 4) h

pub short_begun : (b : ℕ) (k : Begin) (a : Bool) → all_short (step_word (begun a k b) ∷ step_words (begun a k b)) ≡ true
short_begun b Blank a = refl
short_begun b Sole true = refl
short_begun b Sole false = refl
short_begun b (Starts i) true = refl
short_begun b (Starts i) false = refl
short_begun b NeverBegins a = refl

short_ending : (w : Word) (st : Step) → short w ≡ true → all_short (step_word st ∷ step_words st) ≡ true → all_short (step_word (ending w st) ∷ step_words (ending w st)) ≡ true
short_ending w dead h e = refl
short_ending w (on io v ws) h e =
    let p = and_parts (short v) (all_short ws) e in
    and_from (short v) (short w && all_short ws) p.0 (and_from (short w) (all_short ws) h p.1)

short_cond : (t : Bool) (st : Step) → all_short (step_word st ∷ step_words st) ≡ true → all_short (step_word (cond t st dead) ∷ step_words (cond t st dead)) ≡ true
short_cond true st h = h
short_cond false st h = refl

pub short_over : (r : Rules) (p : Place) (i : Inside) (w : Word) (c : ℕ) → short w ≡ true → all_short (step_word (turned r p i w c NeverTurns) ∷ step_words (turned r p i w c NeverTurns)) ≡ true
short_over r p i w c h =
    let q : Place = behind r p w in
    let st : Step = between r q c in
    short_cond (r.whole i w && r.delimits c) (ending w st) (short_ending w st h (short_begun c (r.begins c) (admits r q c)))

-- a word of 255 bytes and one more is too long
too_long : (w : Word) (c : ℕ) → length w ≡ most_bytes → short (w ++ c ∷ []) ≡ false
too_long w c e = let n = length-append w (c ∷ []) in lt-leb (length (w ++ c ∷ [])) most_bytes (omega arith)

four_turned : (r : Rules) (s : State) (p : Place) (i : Inside) (w : Word) (b : ℕ) (tail : List ℕ) (t : Turn) → length w ≡ most_bytes → spelled_turn (λ j. spelled_on r j (w ++ b ∷ []) tail) (none_left tail) t ≡ true → judged r s (turned r p i w b t) ≡ refused 4
four_turned r s p i w b tail (Stays j) e sp = long_four r s (Some j) (w ++ b ∷ []) [] (and_left (short (w ++ b ∷ [])) true (too_long w b e))
four_turned r s p i w b tail Closes e sp = long_four r s None [] ((w ++ b ∷ []) ∷ []) (and_left (short (w ++ b ∷ [])) true (too_long w b e))
four_turned r s p i w b tail NeverTurns e sp = absurd (false≢true sp)

-- the first word to come, finished by tail
four_first : (r : Rules) (s : State) (p : Place) (i : Inside) (w : Word) (k b : ℕ) (bs tail rest : List ℕ) → length w ≤ k → (k - length w) + suc most_bytes ≡ suc k → suc most_bytes ≤ length (w ++ tail) → b ∷ bs ≡ tail ++ rest
    → spelled_on r i w tail ≡ true → judged r s (turned r p i w b (r.turns i w b)) ≡ refused 4
four_first r s p i w k b bs [] rest h e n same sp = absurd (let x = ap (λ (v : Word). length v) (append-nil w) in omega arith)
four_first r s p i w k b bs (c ∷ tail) rest h e n same sp =
    subst (λ (x : ℕ). judged r s (turned r p i w x (r.turns i w x)) ≡ refused 4) (sym (same_head b c bs (tail ++ rest) same))
    (four_turned r s p i w c tail (r.turns i w c) (omega arith) sp)

pub four_back : (r : Rules) (s : State) (p : Place) (io : Option Inside) (w : Word) (ws : List Word) (k b : ℕ) (bs : List ℕ) → length w ≤ k → (g : Rest r p io w ws (b ∷ bs)) → ByteOfWord k (suc most_bytes) (rest_places r p io w ws (b ∷ bs) g k)
    → judged r s (stepped r p io w b) ≡ refused 4
four_back r s p None w ws k b bs h g x = absurd (not_to_come k (suc most_bytes) (places k g.0) (omega arith) (places_begin r ws (b ∷ bs) k g.0) x)
four_back r s p (Some i) w ws k b bs h g (inl x) = four_first r s p i w k b bs g.tail g.rest h x.0 x.1 g.bytes_are g.spelt
four_back r s p (Some i) w ws k b bs h g (inr x) =
    let n : ℕ = k + length g.tail in
    absurd (not_to_come k (suc most_bytes) (places n g.written) (omega arith) (begin_later n k (places n g.written) (omega arith) (places_begin r g.more g.rest n g.written)) x)

-- a word goes on with a byte that is part of it
tail_goes_on : (r : Rules) → Lawful r → (p : Place) (i : Inside) (w : Word) (b : ℕ) (bs tail rest : List ℕ) → Live r p i w → b ∷ bs ≡ tail ++ rest → spelled_on r i w tail ≡ true → Follows r.kind r.delimits (w ++ tail) rest → is_never (r.turns i w b) ≡ false → 0 < length tail
tail_goes_on r l p i [] b bs tail rest live e sp fo h = absurd live
tail_goes_on r l p i (c ∷ v) b bs (d ∷ tail) rest live e sp fo h = omega arith
tail_goes_on r l p i (c ∷ v) b bs [] [] live e sp fo h = absurd (true≢false (ap none_left (sym e)))
tail_goes_on r l p i (c ∷ v) b bs [] (d ∷ rest) live e sp fo h =
    let del : r.delimits b ≡ true = ap r.delimits (same_head b d bs rest e) ∙ loose_follows r l i c v (d ∷ rest) live.0 sp fo in
    absurd (both_ways (is_never (r.turns i (c ∷ v) b)) h (ap is_never (l.delimiter_ends i (c ∷ v) b sp del)))

-- a word under way that becomes too long has 255 bytes
full_word : (r : Rules) (s : State) (io : Option Inside) (w v : Word) (ws : List Word) (b : ℕ) → short w ≡ true → judged r s (on io v ws) ≡ refused 4 → (short (w ++ b ∷ []) ≡ true → all_short (v ∷ ws) ≡ true) → length w ≡ most_bytes
full_word r s io w v ws b small e h = ⊎_elim
    (λ t. absurd (short_not_four r s (on io v ws) (h t) e))
    (λ t. let n = length-append w (b ∷ []) in let x = leb-false (length (w ++ b ∷ [])) most_bytes t in let y = leb-true (length w) most_bytes small in omega arith)
    (cases_Bool (short (w ++ b ∷ [])))

four_full : (r : Rules) (s : State) (p : Place) (i : Inside) (w : Word) (b : ℕ) (t : Turn) → short w ≡ true → judged r s (turned r p i w b t) ≡ refused 4 → (length w ≡ most_bytes) × (is_never t ≡ false)
four_full r s p i w b (Stays j) small e = (full_word r s (Some j) w (w ++ b ∷ []) [] b small e (λ h. and_from (short (w ++ b ∷ [])) true h refl), refl)
four_full r s p i w b Closes small e = (full_word r s None w [] ((w ++ b ∷ []) ∷ []) b small e (λ h. and_from (short (w ++ b ∷ [])) true h refl), refl)
four_full r s p i w b NeverTurns small e = absurd (short_not_four r s (turned r p i w b NeverTurns) (short_over r p i w b small) e)

pub four_forth : (r : Rules) → Lawful r → (s : State) (p : Place) (io : Option Inside) (w : Word) (ws : List Word) (k b : ℕ) (bs : List ℕ) → Sane r p io w → short w ≡ true → length w ≤ k → (g : Rest r p io w ws (b ∷ bs)) → judged r s (stepped r p io w b) ≡ refused 4
    → ByteOfWord k (suc most_bytes) (rest_places r p io w ws (b ∷ bs) g k)
four_forth r l s p None w ws k b bs sane small h g e = absurd (short_not_four r s (between r p b) (short_begun b (r.begins b) (admits r p b)) e)
four_forth r l s p (Some i) w ws k b bs sane small h g e =
    let f = four_full r s p i w b (r.turns i w b) small e in
    let full = f.0 in
    let n = length-append w g.tail in
    let t = tail_goes_on r l p i w b bs g.tail g.rest sane g.bytes_are g.spelt g.follows f.1 in
    inl (omega arith, omega arith)

pub four_if_long : (r : Rules) → Lawful r → FourIfLong r
four_if_long r l bs b more h d =
    let s : State = run r (fresh r) bs in
    let g = goes_on r l bs b more h d in
    let k : ℕ = length bs in
    let here : List Placed = rest_places r s.place s.inside s.word g.words_to_come (b ∷ more) g.rest k in (
      λ e. subst (ByteOfWord k (suc most_bytes)) (sym g.all_places)
          (byte_right k (suc most_bytes) (so_far r (fresh r) 0 bs) here (four_forth r l s s.place s.inside s.word g.words_to_come k b more g.fit.0 g.small g.within g.rest e)),
      λ x. ⊎_elim (λ y. absurd (not_ended k (suc most_bytes) (so_far r (fresh r) 0 bs) g.ended_before y))
          (λ y. four_back r s s.place s.inside s.word g.words_to_come k b more g.within g.rest y)
          (byte_cases k (suc most_bytes) (so_far r (fresh r) 0 bs) here (subst (ByteOfWord k (suc most_bytes)) g.all_places x)),
    )
