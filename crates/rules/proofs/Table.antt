-- A table that is the list of what a function gives at each index has it at any one.
use Rattle.std.proofs.Common.{◌≡◌, ℕ, ◌<◌, List, map, get_or, ap, ◌∙◌, arith}
use Rattle.std.specs.List.{range_with_len}
use Rattle.std.proofs.lemmas.List.FromFn.{get_or-map-range_with_len}

pub at : {X : Type 0} (f : ℕ → X) (table : List X) (n i : ℕ) (d : X) → table ≡ map f (range_with_len 0 n) → i < n → get_or table i d ≡ f i
at f table n i d e h = ap (λ xs. get_or xs i d) e ∙ get_or-map-range_with_len f 0 n i i d h (omega arith)
