-- Passing token by token writes the layout: a decision, once made, stands.
use Rattle.std.proofs.Common.{◌≡◌, ℕ, zero, suc, pred, ◌+◌, ◌≤◌, Bool, true, false, not, ◌||◌, leb, ◌⊎◌, List, [], ◌∷◌, ◌++◌, length, sym, refl, ap, ◌∙◌, subst, inl, inr, ⊎_elim, append_assoc, arith}
use Rattle.std.proofs.lemmas.List.{append-nil}
use Rattle.std.proofs.lemmas.Bool.{cases_Bool, cond-true, cond-false, leb-true, leb-false, lt-leb, or_cases, or_parts, or_left, or_right, not-true, not-false, both_ways}
use Rattle.layout.specs.Tokens.{Token, Text, Break, Opening, Ending, width, widths, opens, reached, before_reach, size, free}
use Rattle.layout.specs.Layout.{Pen, start, writes, after, fits, pieces, ended, joined}
use Rattle.layout.specs.Passing.{Passed, pass, behind, decided, so_far, written, held_back}
use Rattle.layout.specs.Laws.{onto, WrittenBegins, HeldIsNarrow, PassingJoins, RestFollows}

pub joined_append : (ps qs : List (List ℕ)) → joined (ps ++ qs) ≡ joined ps ++ joined qs
joined_append [] qs = refl
joined_append (p ∷ ps) qs = ap (λ (xs : List ℕ). p ++ xs) (joined_append ps qs) ∙ sym (append_assoc p (joined ps) (joined qs))

-- a reach that has come stays where it is
pub reached_more : (n : ℕ) (ts us : List Token) → reached n ts ≡ true → reached n (ts ++ us) ≡ true
reached_more n [] us h = absurd (both_ways false refl h)
reached_more n (Text bytes ∷ ts) us h = reached_more n ts us h
reached_more zero (Break blanks offset ∷ ts) us h = refl
reached_more (suc n) (Break blanks offset ∷ ts) us h = reached_more (suc n) ts us h
reached_more n (Opening offset fold anchor ∷ ts) us h = reached_more (suc n) ts us h
reached_more n (Ending ∷ ts) us h = reached_more (pred n) ts us h

pub before_more : (n : ℕ) (ts us : List Token) → reached n ts ≡ true → before_reach n (ts ++ us) ≡ before_reach n ts
before_more n [] us h = absurd (both_ways false refl h)
before_more n (Text bytes ∷ ts) us h = ap (λ (k : ℕ). length bytes + k) (before_more n ts us h)
before_more zero (Break blanks offset ∷ ts) us h = refl
before_more (suc n) (Break blanks offset ∷ ts) us h = ap (λ (k : ℕ). blanks + k) (before_more (suc n) ts us h)
before_more n (Opening offset fold anchor ∷ ts) us h = before_more (suc n) ts us h
before_more n (Ending ∷ ts) us h = before_more (pred n) ts us h

-- until the reach comes, all widths count
pub before_unreached : (n : ℕ) (ts : List Token) → reached n ts ≡ false → before_reach n ts ≡ widths ts
before_unreached n [] h = refl
before_unreached n (Text bytes ∷ ts) h = ap (λ (k : ℕ). length bytes + k) (before_unreached n ts h)
before_unreached zero (Break blanks offset ∷ ts) h = absurd (both_ways true h refl)
before_unreached (suc n) (Break blanks offset ∷ ts) h = ap (λ (k : ℕ). blanks + k) (before_unreached (suc n) ts h)
before_unreached n (Opening offset fold anchor ∷ ts) h = let e = before_unreached (suc n) ts h in omega arith
before_unreached n (Ending ∷ ts) h = let e = before_unreached (pred n) ts h in omega arith

-- more tokens make no size smaller
pub before_grows : (n : ℕ) (ts us : List Token) → before_reach n ts ≤ before_reach n (ts ++ us)
before_grows n [] us = omega arith
before_grows n (Text bytes ∷ ts) us = let e = before_grows n ts us in omega arith
before_grows zero (Break blanks offset ∷ ts) us = omega arith
before_grows (suc n) (Break blanks offset ∷ ts) us = let e = before_grows (suc n) ts us in omega arith
before_grows n (Opening offset fold anchor ∷ ts) us = before_grows (suc n) ts us
before_grows n (Ending ∷ ts) us = before_grows (pred n) ts us

-- a decided token that is not free fits, or does not, once for all
fits_stays : (m : ℕ) (pen : Pen) (t : Token) (ts us : List Token) → (reached (opens t) ts || not (fits m pen t ts)) ≡ true → fits m pen t (ts ++ us) ≡ fits m pen t ts
fits_stays m pen t ts us h =
    ⊎_elim
    (λ r. let e = before_more (opens t) ts us r in ap (λ (k : ℕ). leb (pen.column + (width t + k)) m) e)
    (λ f. let g = before_grows (opens t) ts us in let d = leb-false _ _ (not-true _ f) in
    let e : leb (pen.column + size t (ts ++ us)) m ≡ false = lt-leb _ _ (omega arith) in e ∙ sym (not-true _ f))
    (or_cases (reached (opens t) ts) (not (fits m pen t ts)) h)

-- whether a free token fits makes no difference
pub writes_free : (m : ℕ) (pen : Pen) (t : Token) (f g : Bool) → free t ≡ true → writes m pen t f ≡ writes m pen t g
writes_free m pen (Text bytes) f g h = refl
writes_free m pen (Break blanks offset) f g h = absurd (both_ways false refl h)
writes_free m pen (Opening offset fold anchor) f g h = refl
writes_free m pen Ending f g h = refl

pub after_free : (m : ℕ) (pen : Pen) (t : Token) (f g : Bool) → free t ≡ true → after m pen t f ≡ after m pen t g
after_free m pen (Text bytes) f g h = refl
after_free m pen (Break blanks offset) f g h = absurd (both_ways false refl h)
after_free m pen (Opening offset fold anchor) f g h = absurd (both_ways false refl h)
after_free m pen Ending f g h = refl

-- what stands of a decision when more tokens come
pub record Settled (over : Bool) (m : ℕ) (pen : Pen) (t : Token) (ts us : List Token) : Type 0 where
  pub decides : decided over m pen t (ts ++ us) ≡ true
  pub writing : writes m pen t (fits m pen t (ts ++ us)) ≡ writes m pen t (fits m pen t ts)
  pub standing : after m pen t (fits m pen t (ts ++ us)) ≡ after m pen t (fits m pen t ts)

stays_decided : (m : ℕ) (pen : Pen) (t : Token) (ts us : List Token) → (reached (opens t) ts || not (fits m pen t ts)) ≡ true → fits m pen t (ts ++ us) ≡ fits m pen t ts → (reached (opens t) (ts ++ us) || not (fits m pen t (ts ++ us))) ≡ true
stays_decided m pen t ts us r e =
    ⊎_elim
    (λ q. or_left (reached (opens t) (ts ++ us)) (not (fits m pen t (ts ++ us))) (reached_more (opens t) ts us q))
    (λ q. or_right (reached (opens t) (ts ++ us)) (not (fits m pen t (ts ++ us))) (ap not e ∙ q))
    (or_cases (reached (opens t) ts) (not (fits m pen t ts)) r)

pub settled : (over : Bool) (m : ℕ) (pen : Pen) (t : Token) (ts us : List Token) → decided false m pen t ts ≡ true → Settled over m pen t ts us
settled over m pen t ts us h =
    ⊎_elim
    (λ f. record { decides = or_right over _ (or_left (free t) _ f); writing = writes_free m pen t _ _ f; standing = after_free m pen t _ _ f })
    (λ r. let e = fits_stays m pen t ts us r in
    record {
      decides = or_right over _ (or_right (free t) _ (stays_decided m pen t ts us r e));
      writing = ap (writes m pen t) e;
      standing = ap (after m pen t) e;
    })
    (or_cases (free t) _ h)

pub pass_on : (over : Bool) (m : ℕ) (pen : Pen) (t : Token) (ts : List Token) → decided over m pen t ts ≡ true → pass over m pen (t ∷ ts) ≡ behind (writes m pen t (fits m pen t ts)) (pass over m (after m pen t (fits m pen t ts)) ts)
pass_on over m pen t ts h = cond-true (decided over m pen t ts) _ _ h

pub pass_off : (over : Bool) (m : ℕ) (pen : Pen) (t : Token) (ts : List Token) → decided over m pen t ts ≡ false → pass over m pen (t ∷ ts) ≡ record { pieces = []; pen = pen; held = t ∷ ts }
pass_off over m pen t ts h = cond-false (decided over m pen t ts) _ _ h

-- passing in pieces is passing at once
pub passing_joins : PassingJoins
passing_joins over m pen [] us = refl
passing_joins over m pen (t ∷ ts) us =
    ⊎_elim
    (λ h. let s = settled over m pen t ts us h in
    let w = writes m pen t (fits m pen t ts) in
    let next = after m pen t (fits m pen t ts) in
    let G : Passed → Passed = λ p. onto p.pieces (pass over m p.pen (p.held ++ us)) in
    let B : List ℕ → Pen → Passed = λ x p. behind x (pass over m p (ts ++ us)) in
    let one : pass over m pen (t ∷ (ts ++ us)) ≡ B w next = pass_on over m pen t (ts ++ us) s.decides ∙ (ap (λ x. B x (after m pen t (fits m pen t (ts ++ us)))) s.writing ∙ ap (B w) s.standing) in
    one ∙ (ap (behind w) (passing_joins over m next ts us) ∙ sym (ap G (pass_on false m pen t ts h))))
    (λ h. let G : Passed → Passed = λ p. onto p.pieces (pass over m p.pen (p.held ++ us)) in
    sym (ap G (pass_off false m pen t ts h)))
    (cases_Bool (decided false m pen t ts))

-- once the document has ended, everything passes
pub pass_all : (m : ℕ) (pen : Pen) (ts : List Token) → ((pass true m pen ts).pieces ≡ pieces m pen ts) × ((pass true m pen ts).held ≡ [])
pass_all m pen [] = (refl, refl)
pass_all m pen (t ∷ ts) =
    let ih = pass_all m (after m pen t (fits m pen t ts)) ts in
    (ap (λ (ps : List (List ℕ)). writes m pen t (fits m pen t ts) ∷ ps) ih.0, ih.1)

-- the pieces of tokens are those passed, and then those of what is held back and of what follows
pub pieces_join : (m : ℕ) (pen : Pen) (ts us : List Token) → pieces m pen (ts ++ us) ≡ (pass false m pen ts).pieces ++ pieces m (pass false m pen ts).pen ((pass false m pen ts).held ++ us)
pieces_join m pen ts us =
    let p = pass false m pen ts in
    sym (pass_all m pen (ts ++ us)).0
    ∙ (ap (λ (q : Passed). q.pieces) (passing_joins true m pen ts us) ∙ ap (λ (ps : List (List ℕ)). p.pieces ++ ps) (pass_all m p.pen (p.held ++ us)).0)

-- the column and what is held back stay within the margin
abbrev pub Narrow : ℕ → Passed → Type 0
Narrow m p = (p.held ≡ []) ⊎ (p.pen.column + widths p.held ≤ m)

pub narrow : (m : ℕ) (pen : Pen) (ts : List Token) → Narrow m (pass false m pen ts)
narrow m pen [] = inl refl
narrow m pen (t ∷ ts) =
    ⊎_elim
    (λ h. subst (Narrow m) (sym (pass_on false m pen t ts h)) (narrow m (after m pen t (fits m pen t ts)) ts))
    (λ h. let p = or_parts (free t) _ h in let q = or_parts (reached (opens t) ts) _ p.1 in
    let f = leb-true _ _ (not-false _ q.1) in let e = before_unreached (opens t) ts q.0 in
    subst (Narrow m) (sym (pass_off false m pen t ts h)) (inr (omega arith)))
    (cases_Bool (decided false m pen t ts))

pub passed_narrow : (m : ℕ) (pen : Pen) (ts : List Token) → widths (pass false m pen ts).held ≤ m
passed_narrow m pen ts = ⊎_elim (λ e. let z : widths (pass false m pen ts).held ≡ 0 = ap widths e in omega arith) (λ h. omega arith) (narrow m pen ts)

pub held_is_narrow : HeldIsNarrow
held_is_narrow m ts = passed_narrow m start ts

pub ended_more : (m : ℕ) (ts us : List Token) → joined (pieces m start (ts ++ us) ++ ended (ts ++ us)) ≡ written m ts ++ joined (pieces m (so_far m ts).pen (held_back m ts ++ us) ++ ended (ts ++ us))
ended_more m ts us =
    let p = so_far m ts in
    ap (λ (ps : List (List ℕ)). joined (ps ++ ended (ts ++ us))) (pieces_join m start ts us)
    ∙ (ap joined (append_assoc p.pieces (pieces m p.pen (p.held ++ us)) (ended (ts ++ us))) ∙ joined_append p.pieces _)

pub written_begins : WrittenBegins
written_begins m ts us = (_, ended_more m ts us)

pub rest_follows : RestFollows
rest_follows m ts =
    let p = so_far m ts in
    let G : List Token → List ℕ = λ us. written m ts ++ joined (pieces m p.pen us ++ ended ts) in
    let F : List Token → List ℕ = λ us. joined (pieces m start us ++ ended us) in
    let H : List Token → List ℕ = λ us. written m ts ++ joined (pieces m p.pen (p.held ++ []) ++ ended us) in
    let K : List (List ℕ) → List ℕ = λ ps. written m ts ++ joined (ps ++ ended ts) in
    sym (ap F (append-nil ts)) ∙ (ended_more m ts [] ∙ (ap H (append-nil ts) ∙ (ap G (append-nil p.held) ∙ sym (ap K (pass_all m p.pen p.held).0))))
