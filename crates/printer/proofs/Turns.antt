-- Whether the first token passes, from its record.
use Rattle.std.proofs.Common.{◌≡◌, ℕ, ◌+◌, Bool, true, false, leb, ◌⊎◌, List, [], ◌∷◌, Some, None, arith}
use Rattle.std.specs.Option.{is_some, unwrap_or}
use Rattle.std.proofs.lemmas.Bool.Decides.{nat_tests}
use Rattle.layout.specs.Tokens.{Token, widths, opens}
use Rattle.layout.specs.Layout.{Pen as LayoutPen, fits}
use Rattle.layout.proofs.Passes.{before_unreached, writes_free, after_free}
use Rattle.stream.specs.declared.record.Slot.{Slot}
use Rattle.scan.specs.First.{First}
use Rattle.printer.specs.Printing.{Turned}

pub turn_none : (over : Bool) (m : ℕ) (pen : LayoutPen) (h : List Token) → First h None → Turned over m pen h None
turn_none over m pen h f = grind arith

-- where its size, or what is held where it waits, decides whether it fits
pub turn_passes : (over : Bool) (m : ℕ) (pen : LayoutPen) (h : List Token) (s : Slot) (f : Bool) → First h (Some s) → f ≡ leb (pen.column + unwrap_or s.size (widths h)) m → (is_some s.size ≡ true) ⊎ ((over ≡ true) ⊎ (f ≡ false)) → Turned over m pen h (Some (s.token, f))
turn_passes over m pen [] s f first e c = cc
turn_passes over m pen (t ∷ ts) s f first e c = grind (arith, nat_tests, before_unreached (opens t) ts, writes_free m pen t f (fits m pen t ts), after_free m pen t f (fits m pen t ts))

pub turn_waits : (over : Bool) (m : ℕ) (pen : LayoutPen) (h : List Token) (s : Slot) (f : Bool) → First h (Some s) → f ≡ leb (pen.column + unwrap_or s.size (widths h)) m → is_some s.size ≡ false → over ≡ false → f ≡ true → Turned over m pen h None
turn_waits over m pen [] s f first e a b c = cc
turn_waits over m pen (t ∷ ts) s f first e a b c = grind (arith, nat_tests, before_unreached (opens t) ts)
