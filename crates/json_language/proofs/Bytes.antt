-- What the class of a byte tells of the byte.
use Rattle.std.proofs.Common.{◌≡◌, ℕ, true, false, cond, ◌||◌, eqb, leb, arith}
use Rattle.std.proofs.lemmas.Bool.Decides.{nat_tests}
use Rattle.rules.specs.declared.word.Part.{Part}
use Rattle.rules.specs.declared.word.Part.TheVariants.{Minus, Zero, Integer}
use Rattle.rules.specs.declared.word.Inside.TheVariants.{Quoted, Number, Literal}
use Rattle.rules.specs.declared.word.Begin.{Begin}
use Rattle.rules.specs.declared.word.Begin.TheVariants.{Blank, Sole, Starts, Never}
use Rattle.rules.specs.Language.{blank_of}
use Rattle.json_language.specs.declared.class.Class.TheVariants.{Control, Blank as BlankByte, Quote, Backslash, Minus as MinusByte, Plus as PlusByte, Point as PointByte, Zero as ZeroByte, Digit as DigitByte, Exponent as ExponentByte}
use Rattle.json_language.specs.Classes.{class_of, is}
use Rattle.json_language.specs.Words.{minus, sign, decimal_point, zero_digit, digit_1_9, digit, e_letter, unescaped, Sort, begin_array, end_array, begin_object, end_object, value_separator, name_separator, string, number, literal, no_word, sort_of, blank, delimits}
use Rattle.json_language.specs.Rules.{begins_in, digits, json_rules}

pub sign_class : (b : ℕ) → (is MinusByte (class_of b) || is PlusByte (class_of b)) ≡ sign b
sign_class b = grind (arith, nat_tests)

pub point_class : (b : ℕ) → is PointByte (class_of b) ≡ decimal_point b
point_class b = grind (arith, nat_tests)

pub zero_class : (b : ℕ) → is ZeroByte (class_of b) ≡ zero_digit b
zero_class b = grind (arith, nat_tests)

pub digit_1_9_class : (b : ℕ) → is DigitByte (class_of b) ≡ digit_1_9 b
digit_1_9_class b = grind (arith, nat_tests)

pub digit_class : (b : ℕ) → digits (class_of b) ≡ digit b
digit_class b = grind (arith, nat_tests)

pub e_class : (b : ℕ) → is ExponentByte (class_of b) ≡ e_letter b
e_class b = grind (arith, nat_tests)

pub quote_class : (b : ℕ) → is Quote (class_of b) ≡ eqb b 0x22
quote_class b = grind (arith, nat_tests)

pub backslash_class : (b : ℕ) → is Backslash (class_of b) ≡ eqb b 0x5C
backslash_class b = grind (arith, nat_tests)

pub low_class : (b : ℕ) → (is Control (class_of b) || is BlankByte (class_of b)) ≡ true → leb 0x20 b ≡ false
low_class b h = grind (arith, nat_tests)

pub plain_class : (b : ℕ) → is Quote (class_of b) ≡ false → is Backslash (class_of b) ≡ false → (is Control (class_of b) || is BlankByte (class_of b)) ≡ false → unescaped b ≡ true
plain_class b no-quote no-backslash not_low = grind (arith, nat_tests)

pub blank_class : (b : ℕ) → blank_of json_rules b ≡ blank b
blank_class b = grind (arith, nat_tests)

pub delimiter_class : (b : ℕ) → delimits b ≡ true → (digits (class_of b) ≡ false) × (is PointByte (class_of b) ≡ false) × (is ExponentByte (class_of b) ≡ false)
delimiter_class b h = (grind (arith, nat_tests), grind (arith, nat_tests), grind (arith, nat_tests))

-- what a byte is between words, by the sort of the word that it would begin
abbrev pub first_part : ℕ → Part
first_part b = cond (minus b) Minus (cond (zero_digit b) Zero Integer)

abbrev pub begin_as : Sort → ℕ → Begin
begin_as begin_array b = Sole
begin_as end_array b = Sole
begin_as begin_object b = Sole
begin_as end_object b = Sole
begin_as value_separator b = Sole
begin_as name_separator b = Sole
begin_as string b = Starts (Quoted 0)
begin_as number b = Starts (Number (first_part b))
begin_as literal b = Starts Literal
begin_as no_word b = cond (blank b) Blank Never

pub begins_by_sort : (b : ℕ) → begins_in (class_of b) ≡ begin_as (sort_of b) b
begins_by_sort b = grind (arith, nat_tests)
