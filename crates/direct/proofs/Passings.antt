-- What is passed and what is held back, counted.
use Rattle.std.proofs.Common.{◌≡◌, ℕ, ◌+◌, Bool, List, [], ◌∷◌, length, refl, arith}
use Rattle.std.proofs.lemmas.Bool.Decides.{nat_tests}
use Rattle.layout.specs.Tokens.{Token, nest}
use Rattle.layout.specs.Layout.{Pen, after, fits}
use Rattle.layout.specs.Passing.{pass}
use Rattle.stream.proofs.Settles.{nest_deeper}
use Rattle.printer.proofs.Advances.{blocks_after}

-- each token is passed or held back
pub pass_count : (over : Bool) (m : ℕ) (pen : Pen) (ts : List Token) → length (pass over m pen ts).pieces + length (pass over m pen ts).held ≡ length ts
pass_count over m pen [] = refl
pass_count over m pen (t ∷ ts) = grind (arith, nat_tests, pass_count over m (after m pen t (fits m pen t ts)) ts)

-- the blocks open behind all tokens are those open behind what is held back
pub pass_nest : (over : Bool) (m : ℕ) (pen : Pen) (ts : List Token) → nest (length (pass over m pen ts).pen.blocks) (pass over m pen ts).held ≡ nest (length pen.blocks) ts
pass_nest over m pen [] = refl
pass_nest over m pen (t ∷ ts) =
    let f = fits m pen t ts in
    grind (arith, nat_tests, pass_nest over m (after m pen t f) ts, blocks_after m pen t f, nest_deeper (length pen.blocks) t ts)
