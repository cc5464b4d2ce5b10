-- What a slip means, and that it keeps the laws of sinks.
use Rattle.std.specs.Prelude.{◌≡◌, ℕ, ◌+◌, ◌≤◌, List, [], map, length, refl}
use Rattle.std.proofs.Common.{ap, arith}
use Rattle.std.proofs.lemmas.List.{length-map}
use Rattle.lines.specs.Lines.{newlines, lines}
use Rattle.arrayvec.specs.ArrayVec.{ArrayVec}
use Rattle.lines.proofs.Splits.{lines_count}
use Rattle.sink.specs.declared.slip.Slip.{Slip}
use Rattle.sink.specs.Begins.{Begins, begins_goes, begins_self}
use Rattle.sink.specs.Fits.{fits_beginnings, fits_by, fits_slip}
use Rattle.sink.specs.Rows.{line, text_on}
use Rattle.sink.specs.Rule.{Laws, Rule}

-- The text that a slip holds.
abbrev pub text_of : Slip → List ℕ
text_of s = text_on s.rows.items

-- The rule of every slip: the texts that fit are admitted; another is refused under number 10 and kind 2.
abbrev pub rule_of : Slip → Rule
rule_of s = record { admits = fits_slip; reason = λ xs. record { number = 10; kind = 2 } }

-- What becomes of a slip: its text begins with the text before.
abbrev pub Later : Slip → Slip → Type 0
Later s t = Begins (text_of s) (text_of t)

-- So it keeps its rule, which is that of every slip.
pub slip_keeps : (s t : Slip) → Later s t → rule_of t ≡ rule_of s
slip_keeps s t l = refl

-- Rows that hold the lines of their text hold no more lines than there are.
pub lines_most : (rows : List (ArrayVec ℕ)) → lines (text_on rows) ≡ map line rows → length (lines (text_on rows)) ≤ length rows
lines_most rows split = omega (arith, ap length split, length-map rows line)

-- So their text has one newline less than there are rows.
pub newlines_above : (rows : List (ArrayVec ℕ)) → lines (text_on rows) ≡ map line rows → newlines (text_on rows) + 1 ≡ length rows
newlines_above rows split = omega (arith, lines_count [] (text_on rows), ap length split, length-map rows line)

-- And so has a slip's.
pub newlines_rows : (s : Slip) → newlines (text_of s) + 1 ≡ length s.rows.items
newlines_rows s = newlines_above s.rows.items s.split

-- The laws of sinks, for slips.
pub slip_laws : Laws text_of rule_of Later
slip_laws =
    record {
      beginnings = λ s xs ys h. fits_beginnings xs ys h;
      held = λ s. fits_by (text_of s) (omega (arith, newlines_rows s, s.few)) s.narrow;
      stays = λ s. begins_self (text_of s);
      goes = λ s t u. begins_goes (text_of s) (text_of t) (text_of u);
    }
