-- The open brackets, as a machine keeps them.
use Rattle.std.proofs.Common.{◌≡◌, ◌-◌, ◌≤◌, true, List, [], ◌∷◌, ◌++◌, reverse, length, take, Some, None, Option, ap, ◌∙◌, sym, arith}
use Rattle.std.specs.Option.{option_to_list}
use Rattle.std.proofs.lemmas.List.{length-take, reverse-append, append-nil}
use Rattle.std.proofs.lemmas.Bool.{le-leb}
use Rattle.rules.specs.declared.place.Bracket.{Bracket}
use Rattle.rules.specs.declared.place.Expects.{Expects}
use Rattle.rules.specs.Rules.{without_innermost}
use Rattle.rules.specs.Machine.{low}

-- not too many are open
pub low_few : (e : Expects) (ks : List Bracket) → length ks ≤ 64 → low (record { expects = e; brackets = ks }) ≡ true
low_few e ks h = le-leb (length ks) 64 h

pub popped : (ks js : List Bracket) (o : Option Bracket) → ks ≡ js ++ option_to_list o → js ≡ take (length ks - 1) ks → reverse js ≡ without_innermost (reverse ks)
popped ks js (Some k) e f = sym (ap (λ (xs : List Bracket). without_innermost (reverse xs)) e ∙ ap without_innermost (reverse-append js (k ∷ [])))
popped [] js None e f = ap reverse f
popped (k ∷ ks) js None e f =
    let m = ap length f in
    let n = ap length (e ∙ append-nil js) in
    let t = length-take (length (k ∷ ks) - 1) (k ∷ ks) in
    absurd (omega arith)
