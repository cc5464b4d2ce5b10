-- Lists turned round, and what a ring holds of them. Callers may cite `held_empty`, `length_held` and `length_held_le`.
use Rattle.std.proofs.Common.{◌≡◌, ℕ, zero, suc, ◌+◌, ◌-◌, ◌<◌, ◌≤◌, min, ◌≢◌, List, [], ◌∷◌, ◌++◌, length, get_or, take, drop, set, Some, None, Option, sym, refl, ap, ◌∙◌, ⊎_elim, arith, MatchOption}
use Rattle.std.proofs.lemmas.List.{get_or-drop, get_or_read, get_or-set_other, get_or-set_same, get_or-take, length-append, length-drop, length_push, length-set, length-take, nil_from_length, places, same_lists, take_all, take_more, take_more_set}
use Rattle.std.proofs.lemmas.Bool.{cases_eq}
use Rattle.std.proofs.lemmas.Bool.Decides.{nat_tests}
use Rattle.queue.specs.declared.Ring.{Ring}
use Rattle.queue.specs.Held.{turned, held, slot}

-- Slots: within the list, apart, and the same for the later elements when the ring begins one further on.

slot_below : (n h i : ℕ) → i < n → slot n h i < n
slot_below n h i l = grind (arith, nat_tests)

slot_apart : (n h i k : ℕ) → i < n → k < n → k ≢ i → slot n h k ≢ slot n h i
slot_apart n h i k a b ne e = grind (arith, nat_tests)

slot_next : (n h at i : ℕ) → at ≡ slot n h 0 → suc i < n → slot n (at + 1) i ≡ slot n h (suc i)
slot_next n h at i s l = grind (arith, nat_tests)

slot_on : (n h k i : ℕ) → k + i < n → slot n (slot n h k) i ≡ slot n h (k + i)
slot_on n h k i l = grind (arith, nat_tests)

-- Turned lists.

length_turned : {X : Type 0} (h : ℕ) (xs : List X) → length (turned h xs) ≡ length xs
length_turned h xs = simp (length-append, length-drop, length-take) (omega arith)

get_or_turned : {X : Type 0} (h : ℕ) (xs : List X) (i : ℕ) (d : X) → i < length xs → get_or (turned h xs) i d ≡ get_or xs (slot (length xs) h i) d
get_or_turned h xs i d l = grind (arith, places, nat_tests, length-append, length-drop, length-take)

turned_set : {X : Type 0} (h : ℕ) (xs : List X) (i : ℕ) (x : X) → i < length xs → turned h (set xs (slot (length xs) h i) x) ≡ set (turned h xs) i x
turned_set {X} h xs i x l = same_lists _ _ (long ∙ sym long') each where
  at : ℕ
  at = slot (length xs) h i

  long : length (turned h (set xs at x)) ≡ length xs
  long = length_turned h (set xs at x) ∙ length-set xs at x

  long' : length (set (turned h xs) i x) ≡ length xs
  long' = length-set (turned h xs) i x ∙ length_turned h xs

  written : (k : ℕ) (d : X) → k < length xs → get_or (set xs at x) (slot (length xs) h k) d ≡ get_or (set (turned h xs) i x) k d
  written k d b =
      ⊎_elim
      (λ (e : k ≡ i).
      let inside : i < length (turned h xs) = omega (arith, length_turned h xs) in
      let p = get_or-set_same xs at x d (slot_below _ h i l) in
      let q = get_or-set_same (turned h xs) i x d inside in
      cc)
      (λ (ne : k ≢ i).
      get_or-set_other xs at (slot (length xs) h k) x d (slot_apart _ h i k l b ne) ∙ sym (get_or_turned h xs k d b) ∙ sym (get_or-set_other (turned h xs) i k x d ne))
      (cases_eq k i)

  each : (k : ℕ) (d : X) → k < length (turned h (set xs at x)) → get_or (turned h (set xs at x)) k d ≡ get_or (set (turned h xs) i x) k d
  each k d b =
      get_or_turned h (set xs at x) k d (omega (arith, long, length-set xs at x)) ∙ ap (λ (n : ℕ). get_or (set xs at x) (slot n h k) d) (length-set xs at x)
      ∙ written k d (omega (arith, long))

-- Fronts of lists.

take_cut : {X : Type 0} (n : ℕ) (xs : List X) → take n xs ≡ take (length (take n xs)) xs
take_cut zero xs = refl
take_cut (suc n) [] = refl
take_cut (suc n) (x ∷ xs) = ap (λ (ys : List _). x ∷ ys) (take_cut n xs)

set_take : {X : Type 0} (n : ℕ) (xs : List X) (i : ℕ) (x : X) → take n (set xs i x) ≡ set (take n xs) i x
set_take zero xs i x = refl
set_take (suc n) [] i x = refl
set_take (suc n) (y ∷ xs) zero x = refl
set_take (suc n) (y ∷ xs) (suc i) x = ap (λ (ys : List _). y ∷ ys) (set_take n xs i x)

-- What is held.

pub held_empty : {X : Type 0} (xs : List X) (ring : Ring) → ring.len ≡ 0 → held xs ring ≡ []
held_empty xs ring e = ap (λ (n : ℕ). take n (turned ring.head xs)) e

pub length_held : {X : Type 0} (xs : List X) (ring : Ring) → length (held xs ring) ≡ min ring.len (length xs)
length_held xs ring = length-take ring.len (turned ring.head xs) ∙ ap (min ring.len) (length_turned ring.head xs)

pub length_held_le : {X : Type 0} (xs : List X) (ring : Ring) → length (held xs ring) ≤ length xs
length_held_le xs ring = omega (arith, length_held xs ring)

get_or_held : {X : Type 0} (xs : List X) (ring : Ring) (i : ℕ) (d : X) → i < length (held xs ring) → get_or (held xs ring) i d ≡ get_or xs (slot (length xs) ring.head i) d
get_or_held xs ring i d l =
    let below : i < ring.len = omega (arith, length_held xs ring) in
    let inside : i < length xs = omega (arith, length_held xs ring) in
    get_or-take ring.len (turned ring.head xs) i d below ∙ get_or_turned ring.head xs i d inside

-- The step of each function: k elements are held, at is an element's slot, and x what stands there.

module _ {X : Type 0} (xs : List X) (ring : Ring) where
  held_cut : (k : ℕ) → k ≡ length (held xs ring) → held xs ring ≡ take k (turned ring.head xs)
  held_cut k e = take_cut ring.len (turned ring.head xs) ∙ ap (λ (n : ℕ). take n (turned ring.head xs)) (sym e)

  pub held_push : (k at : ℕ) (x : X) → k ≡ length (held xs ring) → k < length xs → at ≡ slot (length xs) ring.head k → held (set xs at x) (record { head = ring.head; len = k + 1 }) ≡ held xs ring ++ x ∷ []
  held_push k at x e l s =
      let inside : k < length (turned ring.head xs) = omega (arith, length_turned ring.head xs) in
      ap (λ (j : ℕ). take (k + 1) (turned ring.head (set xs j x))) s ∙ ap (take (k + 1)) (turned_set ring.head xs k x l)
      ∙ take_more_set (turned ring.head xs) k x inside ∙ ap (λ (ys : List X). ys ++ x ∷ []) (sym (held_cut k e))

  pub held_put : (i at : ℕ) (x : X) → i < length xs → at ≡ slot (length xs) ring.head i → held (set xs at x) ring ≡ set (held xs ring) i x
  held_put i at x l s =
      ap (λ (j : ℕ). take ring.len (turned ring.head (set xs j x))) s ∙ ap (take ring.len) (turned_set ring.head xs i x l)
      ∙ set_take ring.len (turned ring.head xs) i x

  pub held_at : (i at : ℕ) (x : X) → i < length (held xs ring) → at ≡ slot (length xs) ring.head i → x ≡ get_or xs at x → x ≡ get_or (held xs ring) i x
  held_at i at x l s r = r ∙ ap (λ (j : ℕ). get_or xs j x) s ∙ sym (get_or_held xs ring i x l)

  pub held_back : (k at : ℕ) (x : X) → k ≡ length (held xs ring) → 0 < k → at ≡ slot (length xs) ring.head (k - 1) → x ≡ get_or xs at x → held xs ring ≡ held xs (record { head = ring.head; len = k - 1 }) ++ x ∷ []
  held_back k at x e l s r =
      let inside : k - 1 < length xs = omega (arith, length_held xs ring) in
      let more : k ≡ k - 1 + 1 = omega arith in
      held_cut k e ∙ ap (λ (n : ℕ). take n (turned ring.head xs)) more
      ∙ take_more (turned ring.head xs) (k - 1) x (omega (arith, length_turned ring.head xs, inside))
      ∙ ap (λ (y : X). take (k - 1) (turned ring.head xs) ++ y ∷ []) (get_or_turned ring.head xs (k - 1) x inside ∙ ap (λ (j : ℕ). get_or xs j x) (sym s) ∙ sym r)

  pub held_front : (k at : ℕ) (x : X) → k ≡ length (held xs ring) → 0 < k → at ≡ slot (length xs) ring.head 0 → x ≡ get_or xs at x → held xs ring ≡ x ∷ held xs (record { head = at + 1; len = k - 1 })
  held_front k at x e l s r = same_lists _ _ (omega (arith, n, m)) each where
    next : Ring
    next = record { head = at + 1; len = k - 1 }

    n : length (held xs ring) ≡ min ring.len (length xs)
    n = length_held xs ring

    m : length (held xs next) ≡ min (k - 1) (length xs)
    m = length_held xs next

    below : at < length xs
    below = omega (arith, slot_below (length xs) ring.head 0 (omega (arith, n)))

    each : (i : ℕ) (d : X) → i < length (held xs ring) → get_or (held xs ring) i d ≡ get_or (x ∷ held xs next) i d
    each zero d b = get_or_held xs ring 0 d b ∙ ap (λ (j : ℕ). get_or xs j d) (sym s) ∙ sym (get_or_read xs at x below r d)
    each (suc i) d b =
        get_or_held xs ring (suc i) d b ∙ ap (λ (j : ℕ). get_or xs j d) (sym (slot_next (length xs) ring.head at i s (omega (arith, n))))
        ∙ sym (get_or_held xs next i d (omega (arith, n, m)))

  pub held_runs : (n k j at m : ℕ) (before behind : List X) → k ≡ length (held xs ring) → j ≡ min n k → at ≡ min ring.head (length xs) → before ≡ take at xs → behind ≡ drop at xs → m ≡ min j (length behind) → take m behind ++ take (j - m) before ≡ take n (held xs ring)
  held_runs n k j at m before behind e ej ea eb ed em = same_lists _ _ (omega (arith, long, length-take n (held xs ring))) each where
    p : length before ≡ min at (length xs)
    p = ap length eb ∙ length-take at xs

    q : length behind ≡ length xs - at
    q = ap length ed ∙ length-drop at xs

    long : length (take m behind ++ take (j - m) before) ≡ j
    long = simp (length-append, length-take) (omega (arith, p, q, length_held xs ring))

    each : (i : ℕ) (d : X) → i < length (take m behind ++ take (j - m) before) → get_or (take m behind ++ take (j - m) before) i d ≡ get_or (take n (held xs ring)) i d
    each i d b =
        let h = get_or_held xs ring i d (omega (arith, long)) in
        let f = ap (λ (ys : List X). get_or ys (i - m) d) eb in
        let g = ap (λ (ys : List X). get_or ys i d) ed in
        grind (arith, places, nat_tests, p, q, long, length_held xs ring)

  pub held_drop : (n k at left : ℕ) → k ≡ length (held xs ring) → (n < k → at ≡ slot (length xs) ring.head n) → left ≡ k - n → held xs (record { head = at; len = left }) ≡ drop n (held xs ring)
  held_drop n k at left e s f = same_lists _ _ (omega (arith, m, p, length-drop n (held xs ring))) each where
    next : Ring
    next = record { head = at; len = left }

    m : length (held xs ring) ≡ min ring.len (length xs)
    m = length_held xs ring

    p : length (held xs next) ≡ min left (length xs)
    p = length_held xs next

    each : (i : ℕ) (d : X) → i < length (held xs next) → get_or (held xs next) i d ≡ get_or (drop n (held xs ring)) i d
    each i d b =
        get_or_held xs next i d b ∙ ap (λ (h : ℕ). get_or xs (slot (length xs) h i) d) (s (omega (arith, p)))
        ∙ ap (λ (j : ℕ). get_or xs j d) (slot_on (length xs) ring.head n i (omega (arith, m, p)))
        ∙ sym (get_or_held xs ring (n + i) d (omega (arith, m, p))) ∙ sym (get_or-drop n (held xs ring) i d)

  pub held_none : 0 ≡ length (held xs ring) → held xs ring ≡ []
  held_none e = nil_from_length (held xs ring) (sym e)

-- A list by its first element and by its last, and one fewer without it.

pub by_first : {X : Type 0} (o : Option X) (xs : List X) → MatchOption o (length xs ≤ 0) (λ x. (0 < length xs) × (x ≡ get_or xs 0 x)) → MatchOption o (xs ≡ []) (λ x. xs ≡ x ∷ drop 1 xs)
by_first None xs h = nil_from_length xs (omega arith)
by_first (Some x) [] h = absurd (omega (arith, h.0))
by_first (Some x) (y ∷ xs) h = ap (λ z. z ∷ xs) (sym h.1)

pub by_last : {X : Type 0} (o : Option X) (xs : List X) (k : ℕ) → k ≡ length xs → 0 < k → MatchOption o (length xs ≤ k - 1) (λ x. (k - 1 < length xs) × (x ≡ get_or xs (k - 1) x)) → MatchOption o (xs ≡ []) (λ x. xs ≡ take (length xs - 1) xs ++ x ∷ [])
by_last None xs k e l h = absurd (omega arith)
by_last {X} (Some x) xs k e l h =
    let more : length xs ≡ k - 1 + 1 = omega arith in
    sym (take_all (length xs) xs (omega arith)) ∙ ap (λ (n : ℕ). take n xs) more ∙ take_more xs (k - 1) x h.0
    ∙ ap (λ (y : X). take (k - 1) xs ++ y ∷ []) (sym h.1) ∙ ap (λ (n : ℕ). take (n - 1) xs ++ x ∷ []) e

pub fewer_front : {X : Type 0} (xs ys : List X) (x : X) → xs ≡ x ∷ ys → length ys + 1 ≡ length xs
fewer_front xs ys x e = omega (arith, ap length e)

pub fewer_back : {X : Type 0} (xs ys : List X) (x : X) → xs ≡ ys ++ x ∷ [] → length ys + 1 ≡ length xs
fewer_back xs ys x e = sym (ap length e ∙ length_push ys x)
