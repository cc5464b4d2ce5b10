-- The lines of a text, whose bytes 0x0A are newlines.
use Rattle.std.specs.Prelude.{ℕ, ◌+◌, max, cond, List, [], ◌∷◌, ◌++◌, length, ◌==◌}

-- how many newlines a text has
abbrev pub newlines : List ℕ → ℕ
newlines [] = 0
newlines (x ∷ xs) = cond (x == 0x0A) (1 + newlines xs) (newlines xs)

-- the length of a text's last line, which may be empty, where c bytes of its first line come before
abbrev pub last_from : ℕ → List ℕ → ℕ
last_from c [] = c
last_from c (x ∷ xs) = cond (x == 0x0A) (last_from 0 xs) (last_from (c + 1) xs)

abbrev pub last_line : List ℕ → ℕ
last_line xs = last_from 0 xs

-- the length of a text's widest line, where c bytes of its first line come before
abbrev pub widest_from : ℕ → List ℕ → ℕ
widest_from c [] = c
widest_from c (x ∷ xs) = cond (x == 0x0A) (max c (widest_from 0 xs)) (widest_from (c + 1) xs)

abbrev pub widest : List ℕ → ℕ
widest xs = widest_from 0 xs

-- the lines of a text, where the bytes begun of its first line come before: each newline ends one
abbrev pub lines_from : List ℕ → List ℕ → List (List ℕ)
lines_from begun [] = begun ∷ []
lines_from begun (x ∷ xs) = cond (x == 0x0A) (begun ∷ lines_from [] xs) (lines_from (begun ++ x ∷ []) xs)

abbrev pub lines : List ℕ → List (List ℕ)
lines xs = lines_from [] xs

-- the length of the longest of some lines
abbrev pub longest : List (List ℕ) → ℕ
longest [] = 0
longest (l ∷ ls) = max (length l) (longest ls)
