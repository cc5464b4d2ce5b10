-- A text split into its lines: how many they are, how long the longest is, and what one more byte adds.
use Rattle.std.proofs.Common.{◌≡◌, ℕ, ◌+◌, max, true, false, cond, eqb, List, [], ◌∷◌, ◌++◌, length, sym, refl, ap, ◌∙◌, arith}
use Rattle.std.proofs.lemmas.List.{length_push, same_from_push}
use Rattle.lines.specs.Lines.{newlines, widest_from, lines_from, lines, longest}

-- a text has one line more than newlines
pub lines_count : (begun xs : List ℕ) → length (lines_from begun xs) ≡ newlines xs + 1
lines_count begun [] = omega arith
lines_count begun (x ∷ xs) =
    elim (eqb x 0x0A) as (λ t. length (cond t (begun ∷ lines_from [] xs) (lines_from (begun ++ x ∷ []) xs)) ≡ cond t (1 + newlines xs) (newlines xs) + 1)
    [ true ↦ omega (arith, lines_count [] xs) | false ↦ lines_count (begun ++ x ∷ []) xs ]

-- the widest line is the longest
pub lines_widest : (begun xs : List ℕ) → longest (lines_from begun xs) ≡ widest_from (length begun) xs
lines_widest begun [] = omega arith
lines_widest begun (x ∷ xs) =
    elim (eqb x 0x0A) as (λ t. longest (cond t (begun ∷ lines_from [] xs) (lines_from (begun ++ x ∷ []) xs)) ≡ cond t (max (length begun) (widest_from 0 xs)) (widest_from (length begun + 1) xs))
    [ true ↦ omega (arith, lines_widest [] xs) | false ↦ lines_widest (begun ++ x ∷ []) xs ∙ ap (λ (n : ℕ). widest_from n xs) (length_push begun x) ]

-- a newline begins a line
pub lines_newline : (begun xs : List ℕ) → lines_from begun (xs ++ 0x0A ∷ []) ≡ lines_from begun xs ++ [] ∷ []
lines_newline begun [] = refl
lines_newline begun (x ∷ xs) =
    elim (eqb x 0x0A) as (λ t. cond t (begun ∷ lines_from [] (xs ++ 0x0A ∷ [])) (lines_from (begun ++ x ∷ []) (xs ++ 0x0A ∷ [])) ≡ cond t (begun ∷ lines_from [] xs) (lines_from (begun ++ x ∷ []) xs) ++ [] ∷ [])
    [ true ↦ ap (λ (ls : List (List ℕ)). begun ∷ ls) (lines_newline [] xs) | false ↦ lines_newline (begun ++ x ∷ []) xs ]

-- the lines but the last, and the last
abbrev ended : List ℕ → List ℕ → List (List ℕ)
ended begun [] = []
ended begun (x ∷ xs) = cond (eqb x 0x0A) (begun ∷ ended [] xs) (ended (begun ++ x ∷ []) xs)

abbrev last : List ℕ → List ℕ → List ℕ
last begun [] = begun
last begun (x ∷ xs) = cond (eqb x 0x0A) (last [] xs) (last (begun ++ x ∷ []) xs)

lines_parts : (begun xs : List ℕ) → lines_from begun xs ≡ ended begun xs ++ last begun xs ∷ []
lines_parts begun [] = refl
lines_parts begun (x ∷ xs) =
    elim (eqb x 0x0A) as (λ t. cond t (begun ∷ lines_from [] xs) (lines_from (begun ++ x ∷ []) xs) ≡ cond t (begun ∷ ended [] xs) (ended (begun ++ x ∷ []) xs) ++ cond t (last [] xs) (last (begun ++ x ∷ []) xs) ∷ [])
    [ true ↦ ap (λ (ls : List (List ℕ)). begun ∷ ls) (lines_parts [] xs) | false ↦ lines_parts (begun ++ x ∷ []) xs ]

parts_more : (b : ℕ) → eqb b 0x0A ≡ false → (begun xs : List ℕ) → lines_from begun (xs ++ b ∷ []) ≡ ended begun xs ++ (last begun xs ++ b ∷ []) ∷ []
parts_more b other begun [] = rw other
parts_more b other begun (x ∷ xs) =
    elim (eqb x 0x0A) as (λ t. cond t (begun ∷ lines_from [] (xs ++ b ∷ [])) (lines_from (begun ++ x ∷ []) (xs ++ b ∷ [])) ≡ cond t (begun ∷ ended [] xs) (ended (begun ++ x ∷ []) xs) ++ (cond t (last [] xs) (last (begun ++ x ∷ []) xs) ++ b ∷ []) ∷ [])
    [ true ↦ ap (λ (ls : List (List ℕ)). begun ∷ ls) (parts_more b other [] xs) | false ↦ parts_more b other (begun ++ x ∷ []) xs ]

-- another byte goes behind the last line
pub lines_byte : (b : ℕ) → eqb b 0x0A ≡ false → (xs : List ℕ) (ls : List (List ℕ)) (l : List ℕ) → lines xs ≡ ls ++ l ∷ [] → lines (xs ++ b ∷ []) ≡ ls ++ (l ++ b ∷ []) ∷ []
lines_byte b other xs ls l e =
    let parts = same_from_push (ended [] xs) ls (last [] xs) l (sym (lines_parts [] xs) ∙ e) in
    parts_more b other [] xs ∙ rw (parts.0, parts.1)

-- the longest of lines with one more
pub longest_push : (ls : List (List ℕ)) (l : List ℕ) → longest (ls ++ l ∷ []) ≡ max (longest ls) (length l)
longest_push [] l = omega arith
longest_push (k ∷ ks) l = omega (arith, longest_push ks l)
