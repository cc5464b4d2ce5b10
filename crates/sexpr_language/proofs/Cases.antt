-- Cases by class.
use Rattle.std.proofs.Common.{◌≡◌, true, false}
use Rattle.std.proofs.lemmas.Bool.{false≢true}
use Rattle.sexpr_language.specs.declared.class.Class.{Class}
use Rattle.sexpr_language.specs.declared.class.Class.TheVariants.{Control, Blank, Space, Quote, Open, Close, Backslash, Atom, Barred}

-- what holds at each class
pub by_class : (P : Class → Type 0) → P Control → P Blank → P Space → P Quote → P Open → P Close → P Backslash → P Atom → P Barred → (c : Class) → P c
by_class P control blank space quote opens closes backslash atom barred Control = control
by_class P control blank space quote opens closes backslash atom barred Blank = blank
by_class P control blank space quote opens closes backslash atom barred Space = space
by_class P control blank space quote opens closes backslash atom barred Quote = quote
by_class P control blank space quote opens closes backslash atom barred Open = opens
by_class P control blank space quote opens closes backslash atom barred Close = closes
by_class P control blank space quote opens closes backslash atom barred Backslash = backslash
by_class P control blank space quote opens closes backslash atom barred Atom = atom
by_class P control blank space quote opens closes backslash atom barred Barred = barred

pub never : {X : Type 0} → false ≡ true → X
never h = absurd (false≢true h)
