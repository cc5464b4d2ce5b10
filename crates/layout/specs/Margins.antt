-- The limits of an indentation, and of the column that a program keeps.
use Rattle.std.specs.Prelude.{ℕ, ◌-◌, min, ℤ, pos, negsuc, ◌+ℤ◌}

-- a whole number, limited to 0 to top
abbrev pub limited : ℕ → ℤ → ℕ
limited top (pos n) = min n top
limited top (negsuc n) = 0

-- an indentation: a base moved by an offset, limited to 0 to the margin less 8
abbrev pub indented : ℕ → ℤ → ℕ → ℕ
indented base offset margin = limited (margin - 8) (pos base +ℤ offset)

-- the column that a program keeps: it stops at 65,535
abbrev pub kept_column : ℕ → ℕ
kept_column column = min column 65535
