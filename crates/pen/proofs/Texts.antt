-- The last line and the widest line of a text that goes on, by the line begun or by a new one.
use Rattle.std.proofs.Common.{◌≡◌, ℕ, ◌+◌, ◌≤◌, max, true, false, cond, eqb, List, [], ◌∷◌, ◌++◌, length, ap, ◌∙◌, arith}
use lib.ListN.{length-replicate}
use Rattle.lines.specs.Lines.{newlines, last_from, last_line, widest_from, widest}
use Rattle.lines.proofs.Joins.{newlines_append, last_append, widest_append, flat_last, flat_widest, flat_blanks}
use Rattle.layout.specs.Layout.{blanks}

-- no line is longer than the widest, and the last is one of them
pub last_within : (c : ℕ) (xs : List ℕ) → last_from c xs ≤ widest_from c xs
last_within c [] = omega arith
last_within c (x ∷ xs) =
    let ih0 = last_within 0 xs in
    let ih1 = last_within (c + 1) xs in
    elim (eqb x 0x0A) as (λ t. cond t (last_from 0 xs) (last_from (c + 1) xs) ≤ cond t (max c (widest_from 0 xs)) (widest_from (c + 1) xs)) [ true ↦ omega arith | false ↦ ih1 ]

-- the numbers of a text `out`, once `more` is added
pub record Grown (out more : List ℕ) (lines line most : ℕ) : Type 0 where
  pub newlines : newlines (out ++ more) ≡ newlines out + lines
  pub last : last_line (out ++ more) ≡ line
  pub widest : widest (out ++ more) ≡ max (widest out) most

pub grown_flat : (out more : List ℕ) → newlines more ≡ 0 → Grown out more 0 (last_line out + length more) (last_line out + length more)
grown_flat out more h =
    record {
      newlines = let e = newlines_append out more in omega arith;
      last = last_append 0 out more ∙ flat_last (last_line out) more h;
      widest = widest_append 0 out more ∙ ap (λ (k : ℕ). max (widest out) k) (flat_widest (last_line out) more h);
    }

pub grown_line : (out : List ℕ) (k : ℕ) → Grown out (0x0A ∷ blanks k) 1 k k
grown_line out k =
    let z = flat_blanks k in
    let n : length (blanks k) ≡ k = length-replicate k 0x20 in
    let l : last_from 0 (blanks k) ≡ 0 + length (blanks k) = flat_last 0 (blanks k) z in
    let w = flat_widest 0 (blanks k) z in
    let within = last_within 0 out in
    record {
      newlines = let e = newlines_append out (0x0A ∷ blanks k) in omega arith;
      last = let e : last_line (out ++ 0x0A ∷ blanks k) ≡ last_from 0 (blanks k) = last_append 0 out (0x0A ∷ blanks k) in omega arith;
      widest = let e : widest (out ++ 0x0A ∷ blanks k) ≡ max (widest out) (max (last_line out) (widest_from 0 (blanks k))) = widest_append 0 out (0x0A ∷ blanks k) in omega arith;
    }
