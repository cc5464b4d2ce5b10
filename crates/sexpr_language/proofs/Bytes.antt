-- The tests of the language on a byte are tests of its class.
use Rattle.std.proofs.Common.{◌≡◌, ℕ, Bool, true, false, cond, eqb, leb, arith}
use Rattle.std.proofs.lemmas.Bool.Decides.{nat_tests}
use Rattle.rules.specs.declared.word.Inside.TheVariants.{Quoted, Number, Literal, Atom as InAtom}
use Rattle.rules.specs.declared.word.Begin.{Begin}
use Rattle.rules.specs.declared.word.Begin.TheVariants.{Blank as BlankByte, Sole, Starts, Never as NeverBegins}
use Rattle.rules.specs.declared.word.Turn.TheVariants.{Stays, Closes, Never}
use Rattle.rules.specs.Language.{is_blank}
use Rattle.sexpr_language.specs.Classes.{class_of}
use Rattle.sexpr_language.specs.Language.{blank, delimits, of_atom, plain, kind_of}
use Rattle.sexpr_language.specs.Rules.{class_kind, class_begins, atom_turns, plain_turns, escape_turns, class_delimits}

pub blank_by_class : (b : ℕ) → is_blank (class_begins (class_of b)) ≡ blank b
blank_by_class b = grind (arith, nat_tests)

pub kind_by_class : (b : ℕ) → class_kind (class_of b) ≡ kind_of b
kind_by_class b = grind (arith, nat_tests)

pub delimits_by_class : (b : ℕ) → class_delimits (class_of b) ≡ delimits b
delimits_by_class b = grind (arith, nat_tests)

-- how a byte goes on with a word, by the tests of the language
pub in_atom : (b : ℕ) → atom_turns (class_of b) ≡ cond (of_atom b) (Stays InAtom) Never
in_atom b = grind (arith, nat_tests)

pub in_string : (b : ℕ) → plain_turns (class_of b) ≡ cond (plain b) (Stays (Quoted 0)) (cond (eqb b 0x22) Closes (cond (eqb b 0x5C) (Stays (Quoted 1)) Never))
in_string b = grind (arith, nat_tests)

pub in_escape : (b : ℕ) → escape_turns (class_of b) ≡ cond (leb 0x20 b) (Stays (Quoted 0)) Never
in_escape b = grind (arith, nat_tests)

-- which bytes begin an atom
abbrev pub starts_atom : Begin → Bool
starts_atom BlankByte = false
starts_atom Sole = false
starts_atom (Starts (Quoted n)) = false
starts_atom (Starts (Number part)) = false
starts_atom (Starts Literal) = false
starts_atom (Starts InAtom) = true
starts_atom NeverBegins = false

pub atom_by_class : (b : ℕ) → starts_atom (class_begins (class_of b)) ≡ of_atom b
atom_by_class b = grind (arith, nat_tests)
