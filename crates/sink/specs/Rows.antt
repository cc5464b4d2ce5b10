-- A slip's rows, read as text.
use Rattle.std.specs.Prelude.{ℕ, List, map}
use Rattle.std.specs.List.{join_with_byte}
use Rattle.arrayvec.specs.ArrayVec.{ArrayVec}

-- The line that a row holds.
abbrev pub line : ArrayVec ℕ → List ℕ
line r = r.items

-- The text on rows: their lines, with a newline between each two.
abbrev pub text_on : List (ArrayVec ℕ) → List ℕ
text_on rows = join_with_byte 10 (map line rows)
