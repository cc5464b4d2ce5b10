-- The texts that fit a slip, and that a beginning of a text that fits fits too.
use Rattle.std.specs.Prelude.{◌≡◌, ℕ, ◌<◌, ◌≤◌, Bool, true, false, ◌&&◌, List, ◌++◌, nat_le}
use Rattle.std.proofs.Common.{arith}
use Rattle.std.proofs.lemmas.Bool.{and_from, and_left, and_parts, and_right, le-leb, leb-true, lt-leb}
use Rattle.lines.specs.Lines.{newlines, widest}
use Rattle.lines.proofs.Joins.{newlines_append, widest_append}

-- At most 15 newlines, and a widest line of at most 40 bytes.
abbrev pub fits_slip : List ℕ → Bool
fits_slip xs = nat_le (newlines xs) 15 && nat_le (widest xs) 40

-- The two limits are enough.
pub fits_by : (xs : List ℕ) → newlines xs ≤ 15 → widest xs ≤ 40 → fits_slip xs ≡ true
fits_by xs few narrow = and_from _ _ (le-leb _ _ few) (le-leb _ _ narrow)

-- A text of more newlines does not fit.
pub over_down : (xs : List ℕ) → 15 < newlines xs → fits_slip xs ≡ false
over_down xs many = and_left _ _ (lt-leb _ _ many)

-- A text with a wider line does not fit.
pub over_across : (xs : List ℕ) → 40 < widest xs → fits_slip xs ≡ false
over_across xs wide = and_right _ _ (lt-leb _ _ wide)

-- A beginning of a text that fits fits.
pub fits_beginnings : (xs ys : List ℕ) → fits_slip (xs ++ ys) ≡ true → fits_slip xs ≡ true
fits_beginnings xs ys h =
    let both = and_parts (nat_le (newlines (xs ++ ys)) 15) (nat_le (widest (xs ++ ys)) 40) h in
    let few = leb-true (newlines (xs ++ ys)) 15 both.0 in
    let narrow = leb-true (widest (xs ++ ys)) 40 both.1 in
    fits_by xs (omega (arith, newlines_append xs ys)) (omega (arith, widest_append 0 xs ys))
