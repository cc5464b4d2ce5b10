-- The lines of a text that is added to.
use Rattle.std.proofs.Common.{◌≡◌, ℕ, zero, suc, ◌+◌, ◌≤◌, max, true, false, cond, eqb, List, [], ◌∷◌, ◌++◌, length, replicate, refl, arith}
use Rattle.lines.specs.Lines.{newlines, last_from, widest_from}

pub newlines_append : (xs ys : List ℕ) → newlines (xs ++ ys) ≡ newlines xs + newlines ys
newlines_append [] ys = omega arith
newlines_append (x ∷ xs) ys =
    let ih = newlines_append xs ys in
    elim (eqb x 0x0A) as (λ t. cond t (1 + newlines (xs ++ ys)) (newlines (xs ++ ys)) ≡ cond t (1 + newlines xs) (newlines xs) + newlines ys) [ true ↦ omega arith | false ↦ ih ]

pub last_append : (c : ℕ) (xs ys : List ℕ) → last_from c (xs ++ ys) ≡ last_from (last_from c xs) ys
last_append c [] ys = refl
last_append c (x ∷ xs) ys =
    elim (eqb x 0x0A) as (λ t. cond t (last_from 0 (xs ++ ys)) (last_from (c + 1) (xs ++ ys)) ≡ last_from (cond t (last_from 0 xs) (last_from (c + 1) xs)) ys) [ true ↦ last_append 0 xs ys | false ↦ last_append (c + 1) xs ys ]

-- a widest line is no shorter than where it begins
pub widest_least : (c : ℕ) (xs : List ℕ) → c ≤ widest_from c xs
widest_least c [] = omega arith
widest_least c (x ∷ xs) =
    let ih = widest_least (c + 1) xs in
    elim (eqb x 0x0A) as (λ t. c ≤ cond t (max c (widest_from 0 xs)) (widest_from (c + 1) xs)) [ true ↦ omega arith | false ↦ omega arith ]

pub widest_append : (c : ℕ) (xs ys : List ℕ) → widest_from c (xs ++ ys) ≡ max (widest_from c xs) (widest_from (last_from c xs) ys)
widest_append c [] ys = let l = widest_least c ys in omega arith
widest_append c (x ∷ xs) ys =
    let ih0 = widest_append 0 xs ys in
    let ih1 = widest_append (c + 1) xs ys in
    elim (eqb x 0x0A) as (λ t. cond t (max c (widest_from 0 (xs ++ ys))) (widest_from (c + 1) (xs ++ ys)) ≡ max (cond t (max c (widest_from 0 xs)) (widest_from (c + 1) xs)) (widest_from (cond t (last_from 0 xs) (last_from (c + 1) xs)) ys)) [ true ↦ omega arith | false ↦ ih1 ]

-- a text has no more newlines than bytes
pub newlines_most : (xs : List ℕ) → newlines xs ≤ length xs
newlines_most [] = omega arith
newlines_most (x ∷ xs) =
    let ih = newlines_most xs in
    elim (eqb x 0x0A) as (λ t. cond t (1 + newlines xs) (newlines xs) ≤ suc (length xs)) [ true ↦ omega arith | false ↦ omega arith ]

-- a text without newlines goes on with the line
pub flat_last : (c : ℕ) (xs : List ℕ) → newlines xs ≡ 0 → last_from c xs ≡ c + length xs
flat_last c [] h = omega arith
flat_last c (x ∷ xs) h =
    elim (eqb x 0x0A) as (λ t. cond t (1 + newlines xs) (newlines xs) ≡ 0 → cond t (last_from 0 xs) (last_from (c + 1) xs) ≡ c + suc (length xs)) [ true ↦ λ z. omega arith | false ↦ λ z. let ih = flat_last (c + 1) xs z in omega arith ] h

pub flat_widest : (c : ℕ) (xs : List ℕ) → newlines xs ≡ 0 → widest_from c xs ≡ c + length xs
flat_widest c [] h = omega arith
flat_widest c (x ∷ xs) h =
    elim (eqb x 0x0A) as (λ t. cond t (1 + newlines xs) (newlines xs) ≡ 0 → cond t (max c (widest_from 0 xs)) (widest_from (c + 1) xs) ≡ c + suc (length xs)) [ true ↦ λ z. omega arith | false ↦ λ z. let ih = flat_widest (c + 1) xs z in omega arith ] h

pub flat_blanks : (n : ℕ) → newlines (replicate n 0x20) ≡ 0
flat_blanks zero = refl
flat_blanks (suc n) = flat_blanks n
