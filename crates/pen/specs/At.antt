-- Where a program's pen stands, in the words of the layout.
use Rattle.std.specs.Prelude.{◌≡◌, ℕ, ◌+◌, ◌-◌, ◌^◌, min, Bool, cond, List, ◌∷◌, reverse, ℤ}
use Rattle.layout.specs.declared.token.Block.{Block}
use Rattle.layout.specs.Margins.{kept_column}
use Rattle.layout.specs.Layout.{Pen as LayoutPen, innermost, stays, blanks, next_indent}
use Rattle.lines.specs.Lines.{newlines, widest, last_line}
use Rattle.queue.specs.Items.{items}
use Rattle.pen.specs.declared.breaking.Breaking.{Breaking}
use Rattle.pen.specs.declared.breaking.Breaking.TheVariants.{Blanks, Line}
use Rattle.pen.specs.declared.pen.Pen.{Pen}

-- the open blocks, the innermost first
abbrev pub open_blocks : Pen → List Block
open_blocks p = reverse (items p.blocks)

-- the program's pen stands where the layout's pen stands, at the margin m and after the text `out` was written
pub record At (m : ℕ) (pen : LayoutPen) (out : List ℕ) (p : Pen) : Type 0 where
  pub margin : p.margin.columns ≡ m
  pub column : p.column ≡ kept_column pen.column
  pub blocks : open_blocks p ≡ pen.blocks
  pub newlines : p.newlines ≡ min (newlines out) (2 ^ 64 - 1)
  pub widest : p.widest ≡ min (widest out) 65535
  pub last : pen.column ≡ last_line out

-- how a Break of n blanks and this offset is written, given whether it fits
abbrev pub breaking : ℕ → LayoutPen → ℕ → ℤ → Bool → Breaking
breaking m pen n offset fits = cond (stays (innermost pen.blocks).fold fits) (Blanks n) (Line (next_indent m pen offset))

-- the bytes that it is
abbrev pub bytes_of : Breaking → List ℕ
bytes_of (Blanks n) = blanks n
bytes_of (Line k) = 0x0A ∷ blanks k

-- the column after it, from this column
abbrev pub column_after : ℕ → Breaking → ℕ
column_after column (Blanks n) = column + n
column_after column (Line k) = k
