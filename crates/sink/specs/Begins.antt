-- Texts that begin with another.
use Rattle.std.specs.Prelude.{◌≡◌, ℕ, ◌≤◌, List, ◌++◌, length, take, refl}
use Rattle.std.proofs.Common.{sym, ap, ◌∙◌, arith}
use Rattle.std.proofs.lemmas.List.{length-take, take_all, take_at, take-take}

-- The second text begins with the first.
abbrev pub Begins : List ℕ → List ℕ → Type 0
Begins xs ys = take (length xs) ys ≡ xs

-- A beginning is no longer than the text.
pub begins_short : (xs ys : List ℕ) → Begins xs ys → length xs ≤ length ys
begins_short xs ys e = omega (arith, length-take (length xs) ys, ap length e)

-- A text begins with itself.
pub begins_self : (xs : List ℕ) → Begins xs xs
begins_self xs = take_all (length xs) xs (omega arith)

-- A beginning of a beginning.
pub begins_goes : (xs ys zs : List ℕ) → Begins xs ys → Begins ys zs → Begins xs zs
begins_goes xs ys zs d e = sym (take-take (length xs) (length ys) zs (begins_short xs ys d)) ∙ ap (take (length xs)) e ∙ d

-- A text with more behind it begins with the text.
pub begins_more : (xs ys zs : List ℕ) → zs ≡ xs ++ ys → Begins xs zs
begins_more xs ys zs e = rw e (take_at xs ys (length xs) refl)
