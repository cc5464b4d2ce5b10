-- The table of open blocks.
use Rattle.std.proofs.Common.{◌≡◌, ℕ, suc, ◌+◌, ◌-◌, List, [], ◌∷◌, ◌++◌, reverse, length, get_or, take, refl, arith}
use Rattle.std.proofs.Math.Nat.{zero-add}
use Rattle.std.proofs.lemmas.List.{take_all, take_more, reverse-append}
use Rattle.layout.specs.Tokens.{Token, nest}
use Rattle.direct.specs.Calls.{opened_from, opened, without_first}

-- the table without its last number, turned round
pub turned_less : (xs : List ℕ) → reverse (take (length xs - 1) xs) ≡ without_first (reverse xs)
turned_less [] = refl
turned_less (x ∷ xs) =
    let n = length xs in
    let ys = x ∷ xs in
    let z : length ys - 1 ≡ n = omega arith in
    cc (z, take_all (n + 1) ys (omega arith), take_more ys n 0 (omega arith), reverse-append (take n ys) (get_or ys n 0 ∷ []))

-- one token more
opened_more : (k : ℕ) (bs : List ℕ) (ts : List Token) (t : Token) → opened_from k bs (ts ++ t ∷ []) ≡ opened_from (k + length ts) (opened_from k bs ts) (t ∷ [])
opened_more k bs [] t = grind arith
opened_more k bs (u ∷ ts) t = grind (arith, opened_more (suc k) bs ts t, opened_more (suc k) (k ∷ bs) ts t, opened_more (suc k) (without_first bs) ts t)

pub opened_push : (ts : List Token) (t : Token) → opened (ts ++ t ∷ []) ≡ opened_from (length ts) (opened ts) (t ∷ [])
opened_push ts t = rw zero-add at (opened_more 0 [] ts t)

-- as many as blocks are open
opened_nest : (k : ℕ) (bs : List ℕ) (ts : List Token) → length (opened_from k bs ts) ≡ nest (length bs) ts
opened_nest k bs [] = refl
opened_nest k bs (t ∷ ts) = grind (arith, opened_nest (suc k) bs ts, opened_nest (suc k) (k ∷ bs) ts, opened_nest (suc k) (without_first bs) ts)

pub opened_count : (ts : List Token) → length (opened ts) ≡ nest 0 ts
opened_count ts = opened_nest 0 [] ts
