-- What is handed out of a text.
use Rattle.std.proofs.Common.{◌≡◌, ℕ, suc, ◌+◌, ◌-◌, Bool, true, false, cond, ◌&&◌, List, [], ◌∷◌, ◌++◌, length, take, drop, Some, None, Option, sym, refl, ap, ◌∙◌, subst, append_assoc, arith}
use Rattle.std.proofs.lemmas.List.{append-nil, length-append, take_at, drop_at}
use Rattle.std.proofs.lemmas.Bool.{false≢true, and_parts}
use Rattle.layout.specs.Tokens.{Token}
use Rattle.grammar.specs.Meaning.{Word, Next, byte, end, Answer, refused, gives, Meaning, after, afters, granted, words_of, taken, accepted}
use Rattle.rules.specs.declared.word.Kind.{Kind}
use Rattle.rules.specs.declared.word.Inside.{Inside}
use Rattle.rules.specs.declared.word.Begin.{Begin}
use Rattle.rules.specs.declared.word.Begin.TheVariants.{Blank, Sole, Starts, Never as NeverBegins}
use Rattle.rules.specs.declared.word.Turn.{Turn}
use Rattle.rules.specs.declared.word.Turn.TheVariants.{Stays, Closes, Never as NeverTurns}
use Rattle.rules.specs.Rules.{Rules, Place, admits, behind, stand_for}
use Rattle.rules.specs.Machine.{State, Step, dead, on, begun, between, turned, ending, stepped, step, next, judged, means, pending, finished, fresh, grammar_of}
use Rattle.rules.specs.Lawful.{Lawful, Begun}
use Rattle.reading.specs.Places.{Placed, place_of, placed_at, ended_at, words_at}
use Rattle.reading.specs.Accepts.{step_words}
use Rattle.reading.specs.Story.{Close, whole, broken, Story, before, story_end, story_byte, story, AllParts, Tells}
use Rattle.reading.proofs.Rest.{Sane}
use Rattle.reading.proofs.Complete.{loose_place, strict_place}
use Rattle.reading.proofs.Fit.{Fit, fit_fresh, fit_next}
use Rattle.reading.proofs.Steps.{step_word, Went, went}
use Rattle.reading.proofs.Limits.{accepts_documents}
use Rattle.reading.proofs.Bounds.{words_in_place}

-- a story by answers, whatever the grammar
before_append : (xs ys : List Placed) (s : Story) → before xs (before ys s) ≡ before (xs ++ ys) s
before_append xs ys s = ap (λ (zs : List Placed). record { told = zs; close = s.close }) (sym (append_assoc xs ys s.told))

granted_byte : (kind : ℕ → Kind) (k : ℕ) (a : Answer) (s : Story) → granted a ≡ true → story_byte kind k a s ≡ before (placed_at kind k (words_of a)) s
granted_byte kind k (refused n) s h = absurd (false≢true h)
granted_byte kind k (gives ws ts) s h = refl

granted_end : (kind : ℕ → Kind) (k : ℕ) (a : Answer) → granted a ≡ true → story_end kind k a ≡ record { told = placed_at kind k (words_of a); close = whole }
granted_end kind k (refused n) h = absurd (false≢true h)
granted_end kind k (gives ws ts) h = refl

story_taken : (kind : ℕ → Kind) (m : Meaning) (k : ℕ) (bs cs : List ℕ) → taken m bs ≡ true → story kind m k (bs ++ cs) ≡ before (ended_at kind m k bs) (story kind (afters m bs) (k + length bs) cs)
story_taken kind m k [] cs h = ap (λ (n : ℕ). story kind m n cs) (omega arith)
story_taken kind m k (b ∷ bs) cs h =
    let p = and_parts (granted (m.answer [] (byte b))) (taken (after m b) bs) h in
    let rest : Story = story kind (after m b) (suc k) (bs ++ cs) in
    let ps : List Placed = placed_at kind k (words_of (m.answer [] (byte b))) in
    granted_byte kind k (m.answer [] (byte b)) rest p.0
    ∙ (ap (before ps) (story_taken kind (after m b) (suc k) bs cs p.1)
    ∙ (before_append ps (ended_at kind (after m b) (suc k) bs) (story kind (afters (after m b) bs) (suc k + length bs) cs)
    ∙ ap (λ (n : ℕ). before (ended_at kind m k (b ∷ bs)) (story kind (afters (after m b) bs) n cs)) (omega arith)))

afters_answer : (m : Meaning) (bs : List ℕ) (n : Next) → (afters m bs).answer [] n ≡ m.answer bs n
afters_answer m [] n = refl
afters_answer m (b ∷ bs) n = afters_answer (after m b) bs n

-- a list of stories' words, and no more
told_only : (xs : List Placed) (c : Close) → before xs (record { told = []; close = c }) ≡ record { told = xs; close = c }
told_only xs c = ap (λ (zs : List Placed). record { told = zs; close = c }) (append-nil xs)

refused_story : (kind : ℕ → Kind) (m : Meaning) (bs : List ℕ) (b : ℕ) (more : List ℕ) (n : ℕ) → taken m bs ≡ true → m.answer bs (byte b) ≡ refused n → story kind m 0 (bs ++ b ∷ more) ≡ record { told = ended_at kind m 0 bs; close = broken n (length bs) }
refused_story kind m bs b more n h e =
    let m' : Meaning = afters m bs in
    let xs : List Placed = ended_at kind m 0 bs in
    story_taken kind m 0 bs (b ∷ more) h
    ∙ (ap (λ (a : Answer). before xs (story_byte kind (0 + length bs) a (story kind (after m' b) (suc (0 + length bs)) more))) (afters_answer m bs (byte b) ∙ e)
    ∙ (told_only xs (broken n (0 + length bs)) ∙ ap (λ (k : ℕ). record { told = xs; close = broken n k }) (omega arith)))

ended_story : (kind : ℕ → Kind) (m : Meaning) (bs : List ℕ) (a : Answer) → taken m bs ≡ true → m.answer bs end ≡ a → story kind m 0 bs ≡ before (ended_at kind m 0 bs) (story_end kind (0 + length bs) a)
ended_story kind m bs a h e =
    ap (story kind m 0) (sym (append-nil bs))
    ∙ (story_taken kind m 0 bs [] h ∙ ap (λ (x : Answer). before (ended_at kind m 0 bs) (story_end kind (0 + length bs) x)) (afters_answer m bs end ∙ e))

unfinished_story : (kind : ℕ → Kind) (m : Meaning) (bs : List ℕ) (n : ℕ) → taken m bs ≡ true → m.answer bs end ≡ refused n → story kind m 0 bs ≡ record { told = ended_at kind m 0 bs; close = broken n (length bs) }
unfinished_story kind m bs n h e =
    let xs : List Placed = ended_at kind m 0 bs in
    ended_story kind m bs (refused n) h e ∙ (told_only xs (broken n (0 + length bs)) ∙ ap (λ (k : ℕ). record { told = xs; close = broken n k }) (omega arith))

accepted_story : (kind : ℕ → Kind) (m : Meaning) (bs : List ℕ) → accepted m bs ≡ true → story kind m 0 bs ≡ record { told = words_at kind m 0 bs; close = whole }
accepted_story kind m bs h =
    let p = and_parts (taken m bs) (granted (m.answer bs end)) h in
    let xs : List Placed = ended_at kind m 0 bs in
    ended_story kind m bs (m.answer bs end) p.0 refl ∙ ap (before xs) (granted_end kind (0 + length bs) (m.answer bs end) p.1)

-- the parts of a text at places
part_at : (front w more text : List ℕ) (k : ℕ) → text ≡ front ++ (w ++ more) → length front ≡ k → take (length w) (drop k text) ≡ w
part_at front w more text k e h =
    ap (λ (t : List ℕ). take (length w) (drop k t)) e ∙ (ap (take (length w)) (drop_at front (w ++ more) k h) ∙ take_at w more (length w) refl)

-- these bytes are the last of the others
abbrev pub Tail : Word → List ℕ → Type 0
Tail w pre = (front : List ℕ) × (pre ≡ front ++ w)

tail_nil : (pre : List ℕ) → Tail [] pre
tail_nil pre = (pre, sym (append-nil pre))

tail_more : (w pre : List ℕ) (c : ℕ) → Tail w pre → Tail (w ++ c ∷ []) (pre ++ c ∷ [])
tail_more w pre c t = (t.0, ap (λ (xs : List ℕ). xs ++ c ∷ []) t.1 ∙ append_assoc t.0 w (c ∷ []))

tail_part : (w pre more : List ℕ) (k : ℕ) → Tail w pre → length pre ≡ k → take (length w) (drop (k - length w) (pre ++ more)) ≡ w
tail_part w pre more k t e =
    let n = length-append t.0 w in
    let same = ap (λ (xs : List ℕ). length xs) t.1 in
    part_at t.0 w more (pre ++ more) (k - length w) (ap (λ (xs : List ℕ). xs ++ more) t.1 ∙ append_assoc t.0 w more) (omega arith)

parts_append : (text : List ℕ) (xs ys : List Placed) → AllParts text xs → AllParts text ys → AllParts text (xs ++ ys)
parts_append text [] ys h k = k
parts_append text (x ∷ xs) ys h k = (h.0, parts_append text xs ys h.1 k)

-- a step at place k, behind the bytes pre: its words are parts of the text, and the word that it leaves under way is the last of the bytes taken
abbrev pub PartsStep : Rules → List ℕ → ℕ → List ℕ → ℕ → Step → Type 0
PartsStep r text k pre c st = AllParts text (placed_at r.kind k (step_words st)) × Tail (step_word st) (pre ++ c ∷ [])

-- at a place that is known
at_place : (w text : List ℕ) (n m : ℕ) → n ≡ m → take (length w) (drop m text) ≡ w → take (length w) (drop n text) ≡ w
at_place w text n m e h = ap (λ (k : ℕ). take (length w) (drop k text)) e ∙ h

parts_begun : (r : Rules) → Lawful r → (pre more : List ℕ) (k c : ℕ) → length pre ≡ k → (x : Begin) (a : Bool) → r.begins c ≡ x → PartsStep r (pre ++ c ∷ more) k pre c (begun a x c)
parts_begun r l pre more k c e Blank a h = (tt, tail_nil (pre ++ c ∷ []))
parts_begun r l pre more k c e Sole true h =
    ((at_place (c ∷ []) (pre ++ c ∷ more) (place_of r.kind k (c ∷ [])) k (strict_place r k c [] (l.sole_not_loose c h) ∙ omega arith) (part_at pre (c ∷ []) more (pre ++ c ∷ more) k refl e), tt), tail_nil (pre ++ c ∷ []))
parts_begun r l pre more k c e Sole false h = (tt, tail_nil (pre ++ c ∷ []))
parts_begun r l pre more k c e (Starts i) true h = (tt, (pre, refl))
parts_begun r l pre more k c e (Starts i) false h = (tt, tail_nil (pre ++ c ∷ []))
parts_begun r l pre more k c e NeverBegins a h = (tt, tail_nil (pre ++ c ∷ []))

parts_ending : (r : Rules) (text pre : List ℕ) (k c : ℕ) (w : Word) (st : Step) → take (length w) (drop (place_of r.kind k w) text) ≡ w → PartsStep r text k pre c st → PartsStep r text k pre c (ending w st)
parts_ending r text pre k c w dead h p = (tt, tail_nil (pre ++ c ∷ []))
parts_ending r text pre k c w (on io v ws) h p = ((h, p.0), p.1)

parts_over : (r : Rules) → Lawful r → (pre more : List ℕ) (k c : ℕ) (p : Place) (i : Inside) (b : ℕ) (v : Word) → Begun r i (b ∷ v) → Tail (b ∷ v) pre → length pre ≡ k → (x y : Bool) → r.whole i (b ∷ v) ≡ x
    → PartsStep r (pre ++ c ∷ more) k pre c (cond (x && y) (ending (b ∷ v) (between r (behind r p (b ∷ v)) c)) dead)
parts_over r l pre more k c p i b v g t e true true wh =
    let q : Place = behind r p (b ∷ v) in
    let lo = loose_place r k b v (l.whole_is_loose i b v g wh) in
    parts_ending r (pre ++ c ∷ more) pre k c (b ∷ v) (between r q c) (at_place (b ∷ v) (pre ++ c ∷ more) (place_of r.kind k (b ∷ v)) (k - length (b ∷ v)) lo (tail_part (b ∷ v) pre (c ∷ more) k t e)) (parts_begun r l pre more k c e (r.begins c) (admits r q c) refl)
parts_over r l pre more k c p i b v g t e true false wh = (tt, tail_nil (pre ++ c ∷ []))
parts_over r l pre more k c p i b v g t e false y wh = (tt, tail_nil (pre ++ c ∷ []))

parts_turned : (r : Rules) → Lawful r → (pre more : List ℕ) (k c : ℕ) (p : Place) (i : Inside) (b : ℕ) (v : Word) → Begun r i (b ∷ v) → Tail (b ∷ v) pre → length pre ≡ k → (x : Turn) → r.turns i (b ∷ v) c ≡ x
    → PartsStep r (pre ++ c ∷ more) k pre c (turned r p i (b ∷ v) c x)
parts_turned r l pre more k c p i b v g t e (Stays j) h = (tt, tail_more (b ∷ v) pre c t)
parts_turned r l pre more k c p i b v g t e Closes h =
    let w : Word = (b ∷ v) ++ c ∷ [] in
    let n = length-append pre (c ∷ []) in
    let part = tail_part w (pre ++ c ∷ []) more (suc k) (tail_more (b ∷ v) pre c t) (omega arith) in (
      (at_place w (pre ++ c ∷ more) (place_of r.kind k w) (suc k - length w) (strict_place r k b (v ++ c ∷ []) (l.closed_not_loose i b c v g h)) (subst (λ (text : List ℕ). take (length w) (drop (suc k - length w) text) ≡ w) (append_assoc pre (c ∷ []) more) part), tt),
      tail_nil (pre ++ c ∷ []),
    )
parts_turned r l pre more k c p i b v g t e NeverTurns h = parts_over r l pre more k c p i b v g t e (r.whole i (b ∷ v)) (r.delimits c) refl

pub parts_stepped : (r : Rules) → Lawful r → (pre more : List ℕ) (k c : ℕ) (p : Place) (io : Option Inside) (w : Word) → Sane r p io w → Tail w pre → length pre ≡ k → PartsStep r (pre ++ c ∷ more) k pre c (stepped r p io w c)
parts_stepped r l pre more k c p None w sane t e = parts_begun r l pre more k c e (r.begins c) (admits r p c) refl
parts_stepped r l pre more k c p (Some i) [] sane t e = absurd sane
parts_stepped r l pre more k c p (Some i) (b ∷ v) sane t e = parts_turned r l pre more k c p i b v sane.0 t e (r.turns i (b ∷ v) c) refl

-- the end
pub parts_end : (r : Rules) → Lawful r → (pre : List ℕ) (k : ℕ) (p : Place) (io : Option Inside) (w : Word) → Sane r p io w → Tail w pre → length pre ≡ k → (x : Bool) (ts : List Token) → finished r p io w ≡ x → AllParts (pre ++ []) (story_end r.kind k (cond x (gives (pending io w) ts) (refused 6))).told
parts_end r l pre k p io w sane t e false ts h = tt
parts_end r l pre k p None w sane t e true ts h = tt
parts_end r l pre k p (Some i) [] sane t e true ts h = absurd sane
parts_end r l pre k p (Some i) (b ∷ v) sane t e true ts h =
    let lo = loose_place r k b v (l.whole_is_loose i b v sane.0 (and_parts (r.whole i (b ∷ v)) _ h).0) in
    (at_place (b ∷ v) (pre ++ []) (place_of r.kind k (b ∷ v)) (k - length (b ∷ v)) lo (tail_part (b ∷ v) pre [] k t e), tt)

-- a story behind a byte: of a byte refused, nothing is told
parts_byte : (kind : ℕ → Kind) (text : List ℕ) (k : ℕ) (a : Answer) (s : Story) → (granted a ≡ true → AllParts text (placed_at kind k (words_of a)) × AllParts text s.told) → AllParts text (story_byte kind k a s).told
parts_byte kind text k (refused n) s h = tt
parts_byte kind text k (gives ws ts) s h = let p = h refl in parts_append text (placed_at kind k ws) s.told p.0 p.1

next_tail : (r : Rules) (s : State) (st : Step) (pre : List ℕ) → Went r s st → Tail (step_word st) pre → Tail (next r s st).word pre
next_tail r s dead pre w t = absurd (false≢true w.lives)
next_tail r s (on io v ws) pre w t = t

parts_story : (r : Rules) → Lawful r → (s : State) (pre bs : List ℕ) (k : ℕ) → Fit r s → Tail s.word pre → length pre ≡ k → AllParts (pre ++ bs) (story r.kind (means r s) k bs).told
parts_story r l s pre [] k f t e = parts_end r l pre k s.place s.inside s.word f.0 t e (finished r s.place s.inside s.word) (stand_for r s.place (pending s.inside s.word)) refl
parts_story r l s pre (b ∷ bs) k f t e =
    let st : Step = step r s b in
    let p = parts_stepped r l pre bs k b s.place s.inside s.word f.0 t e in
    let n = length-append pre (b ∷ []) in
    let text : List ℕ = pre ++ b ∷ bs in
    let longer : length (pre ++ b ∷ []) ≡ suc k = omega arith in
    let rest = λ (w : Went r s st). parts_story r l (next r s st) (pre ++ b ∷ []) bs (suc k) (fit_next r s b f) (next_tail r s st (pre ++ b ∷ []) w p.1) longer in
    parts_byte r.kind text k (judged r s st) (story r.kind (means r (next r s st)) (suc k) bs)
    (λ h. let w = went r s st h in (
      subst (λ (a : Answer). AllParts text (placed_at r.kind k (words_of a))) (sym w.answered) p.0,
      subst (λ (x : List ℕ). AllParts x (story r.kind (means r (next r s st)) (suc k) bs).told) (append_assoc pre (b ∷ []) bs) (rest w),
    ))

pub tells : (r : Rules) → Lawful r → Tells r
tells r l = record {
  document = λ ws text wr h e. accepted_story r.kind (grammar_of r) text h ∙ ap (λ (xs : List Placed). record { told = xs; close = whole }) (words_in_place r l text ws wr ((accepts_documents r l text ws).0 h e).sentence h);
  refusal = refused_story r.kind (grammar_of r);
  unfinished = unfinished_story r.kind (grammar_of r);
  parts = λ text. parts_story r l (fresh r) [] text 0 (fit_fresh r) ([], refl) refl;
}
