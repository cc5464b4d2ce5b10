-- The class of a byte.
use Rattle.std.specs.Prelude.{ℕ, cond, ◌||◌, ◌==◌, nat_le}
use Rattle.sexpr_language.specs.declared.class.Class.{Class}
use Rattle.sexpr_language.specs.declared.class.Class.TheVariants.{Control, Blank, Space, Quote, Open, Close, Backslash, Atom, Barred}

-- the first line that fits decides
abbrev pub class_of : ℕ → Class
class_of b =
    cond (b == 0x20) Space
    (cond (b == 0x09 || (b == 0x0A || b == 0x0D)) Blank
    (cond (nat_le b 0x1F) Control
    (cond (b == 0x22) Quote
    (cond (b == 0x28) Open
    (cond (b == 0x29) Close
    (cond (b == 0x5C) Backslash
    (cond (b == 0x3B || b == 0x7F) Barred
    (cond (nat_le b 0xFF) Atom
    Barred))))))))
