-- What the rules say of a byte is what they say of its class.
use Rattle.std.proofs.Common.{◌≡◌, ℕ, arith}
use Rattle.std.proofs.lemmas.Bool.Decides.{nat_tests}
use Rattle.rules.specs.Escapes.{unescaped_turn}
use Rattle.json_language.specs.Classes.{class_of}
use Rattle.json_language.specs.Words.{sort_of, delimits}
use Rattle.json_language.specs.Rules.{plain_turn}
use Rattle.json_grammar.specs.ByClass.{sort_in, delimits_in}

pub sort_class : (b : ℕ) → sort_in (class_of b) ≡ sort_of b
sort_class b = grind (arith, nat_tests)

pub delimits_class : (b : ℕ) → delimits_in (class_of b) ≡ delimits b
delimits_class b = grind (arith, nat_tests)

pub unescaped_class : (b : ℕ) → plain_turn (class_of b) ≡ unescaped_turn b
unescaped_class b = grind (arith, nat_tests)
