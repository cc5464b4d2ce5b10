-- A stack in a list, its top last: what is taken off, and what stands on top.
use Rattle.std.proofs.Common.{◌≡◌, ◌+◌, ◌-◌, ◌<◌, List, [], ◌∷◌, reverse, length, get_or, take, Option, unwrap_or, sym, refl, ap, ◌∙◌, arith, slice_get}
use Rattle.std.proofs.lemmas.List.{take_all, take_more, reverse-append}
use Rattle.std.proofs.lemmas.Option.{slice_get-get_or}
use Rattle.layout.specs.declared.token.Block.{Block}
use Rattle.layout.specs.Layout.{innermost, enclosing}

top : (bs : List Block) (d : Block) → 0 < length bs → reverse bs ≡ get_or bs (length bs - 1) d ∷ reverse (take (length bs - 1) bs)
top bs d some =
    let n = length bs - 1 in
    let all : take (n + 1) bs ≡ bs = take_all (n + 1) bs (omega arith) in
    sym (ap reverse all) ∙ (ap reverse (take_more bs n d (omega arith)) ∙ reverse-append (take n bs) (get_or bs n d ∷ []))

pub innermost_is : (bs : List Block) → unwrap_or (slice_get bs (length bs - 1)) (innermost []) ≡ innermost (reverse bs)
innermost_is [] = refl
innermost_is (b ∷ bs) =
    let xs = b ∷ bs in
    ap (λ (o : Option Block). unwrap_or o (innermost [])) (slice_get-get_or xs (length xs - 1) b (omega arith)) ∙ sym (ap innermost (top xs b (omega arith)))

pub popped : (bs : List Block) → reverse (take (length bs - 1) bs) ≡ enclosing (reverse bs)
popped [] = refl
popped (b ∷ bs) = sym (ap enclosing (top (b ∷ bs) b (omega arith)))
