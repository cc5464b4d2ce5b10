-- What a rule keeps of a run of bytes behind a text. The lemmas that ask for `Beginnings` hold of every sink's rule.
use Rattle.std.proofs.Common.{◌≡◌, ℕ, suc, ◌+◌, ◌<◌, ◌≤◌, Bool, true, false, List, [], ◌∷◌, ◌++◌, length, take, drop, sym, refl, ap, ◌∙◌, ⊎_elim, arith}
use Rattle.std.proofs.lemmas.List.{append-nil, append_assoc, take-append-drop, take-take}
use Rattle.std.proofs.lemmas.Bool.{cases_Bool, cases_lt, cond-true, cond-false, both_ways}
use Rattle.sink.specs.Longest.{Longest}
use Rattle.sink.specs.Rule.{Beginnings, kept}

-- One byte that fits.
pub kept_more : (p : List ℕ → Bool) (before : List ℕ) (b : ℕ) (bs : List ℕ) → p (before ++ b ∷ []) ≡ true → kept p before (b ∷ bs) ≡ b ∷ kept p (before ++ b ∷ []) bs
kept_more p before b bs e = cond-true _ _ _ e

-- One byte that does not.
pub kept_none : (p : List ℕ → Bool) (before : List ℕ) (b : ℕ) (bs : List ℕ) → p (before ++ b ∷ []) ≡ false → kept p before (b ∷ bs) ≡ []
kept_none p before b bs e = cond-false _ _ _ e

-- A run that fits is kept whole.
pub kept_all : (p : List ℕ → Bool) → Beginnings p → (before bytes : List ℕ) → p (before ++ bytes) ≡ true → kept p before bytes ≡ bytes
kept_all p beg before [] h = refl
kept_all p beg before (b ∷ bs) h =
    let h2 : p ((before ++ b ∷ []) ++ bs) ≡ true = rw append_assoc h in
    kept_more p before b bs (beg _ _ h2) ∙ ap (λ (xs : List ℕ). b ∷ xs) (kept_all p beg (before ++ b ∷ []) bs h2)

-- What is kept is admitted.
pub kept_admitted : (p : List ℕ → Bool) (before bytes : List ℕ) → p before ≡ true → p (before ++ kept p before bytes) ≡ true
kept_admitted p before [] h = rw append-nil h
kept_admitted p before (b ∷ bs) h =
    ⊎_elim
    (λ e. rw (kept_more p before b bs e, ← append_assoc before (b ∷ []) (kept p (before ++ b ∷ []) bs)) (kept_admitted p (before ++ b ∷ []) bs e))
    (λ e. rw (kept_none p before b bs e, append-nil) h)
    (cases_Bool (p (before ++ b ∷ [])))

-- What is kept is a beginning of the run.
pub kept_begins : (p : List ℕ → Bool) (before bytes : List ℕ) → kept p before bytes ≡ take (length (kept p before bytes)) bytes
kept_begins p before [] = refl
kept_begins p before (b ∷ bs) =
    ⊎_elim
    (λ e. rw (kept_more p before b bs e) (ap (λ (xs : List ℕ). b ∷ xs) (kept_begins p (before ++ b ∷ []) bs)))
    (λ e. rw (kept_none p before b bs e))
    (cases_Bool (p (before ++ b ∷ [])))

-- A run whose first part is kept whole.
pub kept_behind : (p : List ℕ → Bool) → Beginnings p → (before xs ys : List ℕ) → p (before ++ xs) ≡ true → kept p before (xs ++ ys) ≡ xs ++ kept p (before ++ xs) ys
kept_behind p beg before [] ys h = rw append-nil
kept_behind p beg before (x ∷ xs) ys h =
    let h2 : p ((before ++ x ∷ []) ++ xs) ≡ true = rw append_assoc h in
    let step : kept p (before ++ x ∷ []) (xs ++ ys) ≡ xs ++ kept p (before ++ x ∷ xs) ys = rw append_assoc at (kept_behind p beg (before ++ x ∷ []) xs ys h2) in
    kept_more p before x (xs ++ ys) (beg _ _ h2) ∙ ap (λ (zs : List ℕ). x ∷ zs) step

-- A run whose first part is cut.
pub kept_front : (p : List ℕ → Bool) (before xs ys : List ℕ) → p before ≡ true → p (before ++ xs) ≡ false → kept p before (xs ++ ys) ≡ kept p before xs
kept_front p before [] ys h cut = absurd (both_ways (p before) (rw append-nil at cut) h)
kept_front p before (x ∷ xs) ys h cut =
    let cut2 : p ((before ++ x ∷ []) ++ xs) ≡ false = rw append_assoc cut in
    ⊎_elim
    (λ e. kept_more p before x (xs ++ ys) e ∙ ap (λ (zs : List ℕ). x ∷ zs) (kept_front p (before ++ x ∷ []) xs ys e cut2) ∙ sym (kept_more p before x xs e))
    (λ e. kept_none p before x (xs ++ ys) e ∙ sym (kept_none p before x xs e))
    (cases_Bool (p (before ++ x ∷ [])))

-- A run of which not all is kept: one byte more is not admitted, so that what is kept is the longest beginning.
pub kept_cut : (p : List ℕ → Bool) (before bytes : List ℕ) → length (kept p before bytes) < length bytes → p (before ++ take (length (kept p before bytes) + 1) bytes) ≡ false
kept_cut p before [] less = absurd (omega arith)
kept_cut p before (b ∷ bs) less =
    ⊎_elim
    (λ e. let k = length (kept p (before ++ b ∷ []) bs) in
    let rest : k < length bs = omega (arith, rw (kept_more p before b bs e) at less) in
    let more : suc k + 1 ≡ suc (k + 1) = omega arith in
    rw (kept_more p before b bs e, more, ← append_assoc before (b ∷ []) (take (k + 1) bs)) (kept_cut p (before ++ b ∷ []) bs rest))
    (λ e. rw (kept_none p before b bs e) e)
    (cases_Bool (p (before ++ b ∷ [])))

-- A run that is not kept whole is not admitted.
pub kept_over : (p : List ℕ → Bool) → Beginnings p → (before bytes : List ℕ) → length (kept p before bytes) < length bytes → p (before ++ bytes) ≡ false
kept_over p beg before bytes less =
    ⊎_elim (λ fits. absurd (omega (arith, ap length (kept_all p beg before bytes fits)))) (λ over. over) (cases_Bool (p (before ++ bytes)))

-- With n bytes any fewer are admitted.
fewer : (p : List ℕ → Bool) → Beginnings p → (before bytes : List ℕ) (k n : ℕ) → k ≤ n → p (before ++ take n bytes) ≡ true → p (before ++ take k bytes) ≡ true
fewer p beg before bytes k n l h =
    let split : take n bytes ≡ take k bytes ++ drop k (take n bytes) = sym (take-append-drop k (take n bytes)) ∙ ap (λ (xs : List ℕ). xs ++ drop k (take n bytes)) (take-take k n bytes l) in
    beg (before ++ take k bytes) (drop k (take n bytes)) (sym (ap p (ap (λ (xs : List ℕ). before ++ xs) split ∙ sym (append_assoc before (take k bytes) (drop k (take n bytes))))) ∙ h)

-- What is kept is the longest beginning that is admitted.
pub kept_longest : (p : List ℕ → Bool) → Beginnings p → (before bytes : List ℕ) → p before ≡ true → Longest p before bytes
kept_longest p beg before bytes h =
    record {
      begins = kept_begins p before bytes;
      admitted = kept_admitted p before bytes h;
      longest = λ n l a.
          ⊎_elim
          (λ s. absurd (both_ways _ (kept_cut p before bytes (omega arith)) (fewer p beg before bytes (length (kept p before bytes) + 1) n (omega arith) a)))
          (λ s. s)
          (cases_lt (length (kept p before bytes)) n);
    }
