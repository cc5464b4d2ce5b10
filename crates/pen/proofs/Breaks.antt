-- A Break, written as the pen decides, is written as the layout writes it.
use Rattle.std.proofs.Common.{◌≡◌, ℕ, ◌+◌, Bool, true, false, cond, List, ◌∷◌, ◌++◌, ℤ, refl, ap}
use Rattle.layout.specs.Tokens.{Break}
use Rattle.layout.specs.Layout.{Pen as LayoutPen, innermost, stays, blanks, next_indent, writes, after}
use Rattle.pen.specs.declared.breaking.Breaking.{Breaking}
use Rattle.pen.specs.declared.breaking.Breaking.TheVariants.{Blanks, Line}
use Rattle.pen.specs.declared.pen.Pen.{Pen}
use Rattle.pen.specs.At.{At, breaking, bytes_of, column_after}

pub breaking_writes : (m : ℕ) (pen : LayoutPen) (n : ℕ) (offset : ℤ) (fits : Bool) → bytes_of (breaking m pen n offset fits) ≡ writes m pen (Break n offset) fits
breaking_writes m pen n offset fits =
    let k = next_indent m pen offset in
    elim (stays (innermost pen.blocks).fold fits) as (λ t. bytes_of (cond t (Blanks n) (Line k)) ≡ cond t (blanks n) (0x0A ∷ blanks k)) [ true ↦ refl | false ↦ refl ]

column_breaks : (b : Bool) (column n k : ℕ) → column_after column (cond b (Blanks n) (Line k)) ≡ cond b (column + n) k
column_breaks true column n k = refl
column_breaks false column n k = refl

pub breaking_after : (m : ℕ) (pen : LayoutPen) (n : ℕ) (offset : ℤ) (fits : Bool) → record { column = column_after pen.column (breaking m pen n offset fits); blocks = pen.blocks } ≡ after m pen (Break n offset) fits
breaking_after m pen n offset fits =
    let P : ℕ → LayoutPen = λ column. record { column = column; blocks = pen.blocks } in
    ap P (column_breaks (stays (innermost pen.blocks).fold fits) pen.column n (next_indent m pen offset))

-- so a Break that is written as the pen decides leaves the pen where the layout's stands, after what the layout writes
pub after_break : (m : ℕ) (pen : LayoutPen) (out : List ℕ) (p : Pen) (n : ℕ) (offset : ℤ) (fits : Bool) (how : Breaking) → how ≡ breaking m pen n offset fits →
    At m (record { column = column_after pen.column how; blocks = pen.blocks }) (out ++ bytes_of how) p → At m (after m pen (Break n offset) fits) (out ++ writes m pen (Break n offset) fits) p
after_break m pen out p n offset fits how e at = rw (← breaking_writes m pen n offset fits, ← breaking_after m pen n offset fits, ← e) at
