use Rattle.std.proofs.Common.{◌≡◌, ℕ, ◌+◌, ◌<◌, ◌≤◌, Bool, true, cond, ltb, List, [], ◌∷◌, ◌++◌, length, get_or, take, sym, ap, ◌∙◌, arith, rules}
use Rattle.std.proofs.lemmas.List.{append_assoc, length-append, length-take-le, take_all, take_more}
use Rattle.std.proofs.lemmas.Bool.{cond-true, lt-ltb}
use Rattle.queue.proofs.push_all.Goals as goal

-- one turn: olds stood before the loop, before and after are held before and after the turn
turn : {X : Type 0} (olds xs before after : List X) (i room : ℕ) (r : Bool) (x : X) → before ≡ olds ++ take i xs → i < length xs → length olds + length xs ≤ room → x ≡ get_or xs i x → r ≡ ltb (length before) room → after ≡ cond r (before ++ x ∷ []) before → after ≡ olds ++ take (i + 1) xs
turn {X} olds xs before after i room r x b l fits e a h =
    let n : length before ≡ length olds + i = ap length b ∙ length-append olds (take i xs) ∙ ap (λ (m : ℕ). length olds + m) (length-take-le i xs (omega arith)) in
    let t : r ≡ true = a ∙ lt-ltb _ _ (omega arith) in
    h ∙ cond-true _ _ _ t ∙ ap (λ (ys : List X). ys ++ x ∷ []) b ∙ append_assoc olds (take i xs) (x ∷ [])
    ∙ ap (λ (y : X). olds ++ (take i xs ++ y ∷ [])) e ∙ ap (λ (ys : List X). olds ++ ys) (sym (take_more xs i x l))

pub loop-x-preserved : goal.loop-x-preserved
loop-x-preserved g c = turn _ c.args.xs.now _ _ _ _ _ _ c.loop-x.invariant c.loop-x-test.true (search rules) c.x-item.is c.push_back.ensures.answer c.push_back.ensures.holds

pub returns : goal.returns
returns g c = search (rules, take_all)
