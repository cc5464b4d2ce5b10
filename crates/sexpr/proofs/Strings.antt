-- What the rules say of a byte in a string is what they say of its class.
use Rattle.std.proofs.Common.{◌≡◌, ℕ, arith}
use Rattle.std.proofs.lemmas.Bool.Decides.{nat_tests}
use Rattle.rules.specs.Escapes.{unescaped_turn}
use Rattle.sexpr_language.specs.Classes.{class_of}
use Rattle.sexpr_language.specs.Rules.{plain_turns}

pub unescaped_class : (b : ℕ) → plain_turns (class_of b) ≡ unescaped_turn b
unescaped_class b = grind (arith, nat_tests)
