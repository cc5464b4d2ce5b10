-- The classes of bytes.
use Rattle.std.specs.Prelude.{ℕ, Bool, cond, ◌&&◌, ◌||◌, ◌==◌, nat_le}
use Rattle.json_language.specs.declared.class.Class.{Class}
use Rattle.json_language.specs.declared.class.Class.TheVariants.{Control, Blank, Space, Quote, Backslash, OpenArray, CloseArray, OpenObject, CloseObject, Comma, Colon, Minus, Plus, Point, Zero, Digit, Exponent, Letter, Other}

-- the class of a byte
abbrev pub class_of : ℕ → Class
class_of b =
    cond (b == 0x20) Space
    (cond (b == 0x09 || (b == 0x0A || b == 0x0D)) Blank
    (cond (nat_le b 0x1F) Control
    (cond (b == 0x22) Quote
    (cond (b == 0x5C) Backslash
    (cond (b == 0x5B) OpenArray
    (cond (b == 0x5D) CloseArray
    (cond (b == 0x7B) OpenObject
    (cond (b == 0x7D) CloseObject
    (cond (b == 0x2C) Comma
    (cond (b == 0x3A) Colon
    (cond (b == 0x2D) Minus
    (cond (b == 0x2B) Plus
    (cond (b == 0x2E) Point
    (cond (b == 0x30) Zero
    (cond (nat_le 0x31 b && nat_le b 0x39) Digit
    (cond (b == 0x65 || b == 0x45) Exponent
    (cond (b == 0x74 || (b == 0x66 || b == 0x6E)) Letter
    Other)))))))))))))))))

-- the number of a class
abbrev pub number_of : Class → ℕ
number_of Control = 0
number_of Blank = 1
number_of Space = 2
number_of Quote = 3
number_of Backslash = 4
number_of OpenArray = 5
number_of CloseArray = 6
number_of OpenObject = 7
number_of CloseObject = 8
number_of Comma = 9
number_of Colon = 10
number_of Minus = 11
number_of Plus = 12
number_of Point = 13
number_of Zero = 14
number_of Digit = 15
number_of Exponent = 16
number_of Letter = 17
number_of Other = 18

-- is the second class the first?
abbrev pub is : Class → Class → Bool
is c d = number_of d == number_of c
