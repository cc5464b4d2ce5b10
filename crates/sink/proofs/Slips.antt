-- A byte put into a slip.
use Rattle.std.proofs.Common.{◌≡◌, ℕ, suc, ◌+◌, ◌*◌, ◌<◌, ◌≤◌, max, true, false, cond, eqb, List, [], ◌∷◌, ◌++◌, map, length, get_or, take, set, sym, refl, ap, ◌∙◌, arith}
use Rattle.std.proofs.Props.{props}
use mathlib.Core.HLevel.{is_prop→PathP}
use Rattle.std.specs.List.{join_with_byte}
use Rattle.std.proofs.lemmas.List.{append_assoc, append-nil, length-map, length_push, length-set, map_push, set-get_or, take_all, take_more, take_more_set}
use Rattle.std.proofs.lemmas.Bool.{eqb-true, ne_eqb}
use Rattle.lines.specs.Lines.{newlines, widest_from, widest, lines_from, lines, longest}
use Rattle.lines.proofs.Splits.{lines_byte, lines_count, lines_newline, lines_widest, longest_push}
use Rattle.arrayvec.specs.ArrayVec.{ArrayVec, with_items}
use Rattle.arrayvec.proofs.ArrayVecLemmas.{items-with_items}
use Rattle.sink.specs.declared.slip.Slip.{Slip}
use Rattle.sink.specs.Fits.{fits_by, fits_slip, over_across, over_down}
use Rattle.sink.specs.Rows.{line, text_on}
use Rattle.sink.specs.SlipLaws.{newlines_rows, text_of}

-- Slips with the same rows and the same length are the same.
pub same_slip : (s t : Slip) → s.rows ≡ t.rows → s.len ≡ t.len → s ≡ t
same_slip s t p q =
    λ i. record {
      rows = p i;
      len = q i;
      some = is_prop→PathP (λ j. 0 < length (p j).items) (λ j. hlevel props) s.some t.some i;
      few = is_prop→PathP (λ j. length (p j).items ≤ 16) (λ j. hlevel props) s.few t.few i;
      split = is_prop→PathP (λ j. lines (text_on (p j).items) ≡ map line (p j).items) (λ j. hlevel props) s.split t.split i;
      narrow = is_prop→PathP (λ j. widest (text_on (p j).items) ≤ 40) (λ j. hlevel props) s.narrow t.narrow i;
      size = is_prop→PathP (λ j. length (text_on (p j).items) ≡ q j) (λ j. hlevel props) s.size t.size i;
    }

-- The lines of a text, joined by newlines, are the text.
join_more : (l : List ℕ) (ls : List (List ℕ)) → 0 < length ls → join_with_byte 10 (l ∷ ls) ≡ l ++ 10 ∷ join_with_byte 10 ls
join_more l [] some = absurd (omega arith)
join_more l (k ∷ ls) some = refl

joined_lines : (begun xs : List ℕ) → join_with_byte 10 (lines_from begun xs) ≡ begun ++ xs
joined_lines begun [] = sym (append-nil begun)
joined_lines begun (x ∷ xs) =
    elim (eqb x 10) as (λ t. eqb x 10 ≡ t → join_with_byte 10 (cond t (begun ∷ lines_from [] xs) (lines_from (begun ++ x ∷ []) xs)) ≡ begun ++ x ∷ xs) [
      | true ↦ (λ e. join_more begun (lines_from [] xs) (omega (arith, lines_count [] xs)) ∙ rw (joined_lines [] xs, eqb-true x 10 e))
      | false ↦ (λ e. joined_lines (begun ++ x ∷ []) xs ∙ append_assoc begun (x ∷ []) xs)
    ] refl

-- What rows hold after a byte b was put into a slip s.
pub record Grown (s : Slip) (b : ℕ) (rows : List (ArrayVec ℕ)) : Type 0 where
  pub text : text_on rows ≡ text_of s ++ b ∷ []
  pub fits : fits_slip (text_of s ++ b ∷ []) ≡ true
  pub some : 0 < length rows
  pub few : length rows ≤ 16
  pub split : lines (text_on rows) ≡ map line rows
  pub narrow : widest (text_on rows) ≤ 40
  pub size : length (text_on rows) ≡ s.len + 1

-- They hold it if their lines are those of the text with the byte, and within the limits.
grown : (s : Slip) (b : ℕ) (rows : List (ArrayVec ℕ)) → lines (text_of s ++ b ∷ []) ≡ map line rows → length rows ≤ 16 → longest (map line rows) ≤ 40 → Grown s b rows
grown s b rows split few narrow =
    let more = text_of s ++ b ∷ [] in
    let text : text_on rows ≡ more = sym (ap (join_with_byte 10) split) ∙ joined_lines [] more in
    let count : newlines more + 1 ≡ length rows = omega (arith, lines_count [] more, ap length split, length-map rows line) in
    let wide : widest more ≤ 40 = omega (arith, lines_widest [] more, ap longest split) in
    record {
      text = text;
      fits = fits_by more (omega arith) wide;
      some = omega arith;
      few = few;
      split = ap lines text ∙ split;
      narrow = rw text wide;
      size = omega (arith, ap length text, length_push (text_of s) b, s.size);
    }

-- A newline b.
module _ (s : Slip) (b : ℕ) (newline : b ≡ 10) where
  newline_lines : lines (text_of s ++ b ∷ []) ≡ lines (text_of s) ++ [] ∷ []
  newline_lines = rw newline (lines_newline [] (text_of s))

  -- It starts the next row.
  pub newline_grown : (e : ArrayVec ℕ) → line e ≡ [] → length s.rows.items < 16 → Grown s b (s.rows.items ++ e ∷ [])
  newline_grown e none room =
      let begun : map line s.rows.items ++ [] ∷ [] ≡ map line (s.rows.items ++ e ∷ []) = rw (← none) (sym (map_push line s.rows.items e)) in
      let split = newline_lines ∙ ap (λ (ls : List (List ℕ)). ls ++ [] ∷ []) s.split ∙ begun in
      grown s b _ split (omega (arith, length_push s.rows.items e)) (omega (arith, ap longest begun, longest_push (map line s.rows.items) [], ap longest s.split, lines_widest [] (text_of s), s.narrow))

  -- Behind the last row there is none.
  pub newline_over : length s.rows.items ≡ 16 → fits_slip (text_of s ++ b ∷ []) ≡ false
  newline_over full =
      over_down (text_of s ++ b ∷ []) (omega (arith, lines_count [] (text_of s ++ b ∷ []), ap length newline_lines, length_push (lines (text_of s)) [], lines_count [] (text_of s), newlines_rows s))

-- Rows written back as they were are the rows.
pub same_rows : (rows : ArrayVec (ArrayVec ℕ)) (xs : List (ArrayVec ℕ)) (n : ℕ) (r d : ArrayVec ℕ) → xs ≡ rows.items → r ≡ get_or xs n d → with_items rows (set xs n r) ≡ rows
same_rows rows xs n r d e f =
    let p : (with_items rows (set xs n r)).items ≡ rows.items = items-with_items rows (set xs n r) (omega (arith, length-set xs n r, ap length e)) ∙ ap (set xs n) f ∙ set-get_or xs n d ∙ e in
    λ i. record { items = p i }

-- Another byte b, behind the line of the last of n + 1 rows.
module _ (s : Slip) (b : ℕ) (other : b ≡ 10 → ⊥) (xs : List (ArrayVec ℕ)) (e : xs ≡ s.rows.items) (n : ℕ) (count : length xs ≡ n + 1) (d : ArrayVec ℕ) where
  abbrev above : List (List ℕ)
  above = map line (take n xs)

  abbrev last : List ℕ
  last = line (get_or xs n d)

  inside : n < length xs
  inside = omega (arith, count)

  split_last : lines (text_of s) ≡ above ++ last ∷ []
  split_last = s.split ∙ ap (map line) (sym e ∙ sym (take_all (n + 1) xs (omega (arith, count))) ∙ take_more xs n d inside) ∙ map_push line (take n xs) (get_or xs n d)

  byte_lines : lines (text_of s ++ b ∷ []) ≡ above ++ (last ++ b ∷ []) ∷ []
  byte_lines = lines_byte b (ne_eqb b 10 other) (text_of s) above last split_last

  pub byte_over : length last ≡ 40 → fits_slip (text_of s ++ b ∷ []) ≡ false
  byte_over full =
      over_across (text_of s ++ b ∷ []) (omega (arith, lines_widest [] (text_of s ++ b ∷ []), ap longest byte_lines, longest_push above (last ++ b ∷ []), length_push last b))

  pub byte_grown : (r : ArrayVec ℕ) → line r ≡ last ++ b ∷ [] → length last < 40 → Grown s b (with_items s.rows (set xs n r)).items
  byte_grown r f room =
      let back : (with_items s.rows (set xs n r)).items ≡ set xs n r = items-with_items s.rows (set xs n r) (omega (arith, length-set xs n r, ap length e)) in
      let now : map line (set xs n r) ≡ above ++ (last ++ b ∷ []) ∷ [] = ap (map line) (sym (take_all (n + 1) (set xs n r) (omega (arith, count, length-set xs n r))) ∙ take_more_set xs n r inside) ∙ map_push line (take n xs) r ∙ rw f in
      let wide = lines_widest [] (text_of s) in
      let narrow : longest (map line (set xs n r)) ≤ 40 = omega (arith, ap longest now, longest_push above (last ++ b ∷ []), length_push last b, ap longest split_last, longest_push above last, s.narrow) in
      rw back (grown s b _ (byte_lines ∙ sym now) (omega (arith, length-set xs n r, ap length e, s.few)) narrow)

-- A text of narrow lines is short.
short : (c : ℕ) (xs : List ℕ) → widest_from c xs ≤ 40 → c + length xs ≤ 41 * newlines xs + 40
short c [] = λ narrow. omega arith
short c (x ∷ xs) =
    elim (eqb x 10) as (λ t. cond t (max c (widest_from 0 xs)) (widest_from (c + 1) xs) ≤ 40 → c + suc (length xs) ≤ 41 * cond t (1 + newlines xs) (newlines xs) + 40)
    [ true ↦ (λ narrow. omega (arith, short 0 xs (omega arith))) | false ↦ (λ narrow. omega (arith, short (c + 1) xs narrow)) ]

-- So the length may grow.
pub len_most : (s : Slip) → s.len ≤ 655
len_most s = omega (arith, s.few, s.size, short 0 (text_of s) s.narrow, newlines_rows s)
