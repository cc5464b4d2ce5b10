-- The first token is written.
use Rattle.std.proofs.Common.{◌≡◌, ℕ, ◌≤◌, true, List, [], ◌∷◌, ◌++◌, Ok, refl}
use Rattle.std.proofs.lemmas.List.{append-nil}
use Rattle.layout.specs.Tokens.{Token}
use Rattle.layout.specs.Layout.{Pen as LayoutPen}
use Rattle.stream.specs.Recorded.{Shallow}
use Rattle.pen.specs.At.{At}
use Rattle.pen.specs.declared.pen.Pen.{Pen}
use Rattle.sink.specs.Rule.{Rule}
use Rattle.printer.specs.declared.printer.Printer.{Printer}
use Rattle.printer.specs.Printing.{Moved, Stepped}

-- a block opens or ends: nothing is written
pub stepped_none : {m : ℕ} {pen : LayoutPen} {out : List ℕ} {rule : Rule} {before : List ℕ} {older : ℕ} {p : Printer} (q : Pen) → rule.admits before ≡ true → At m pen out q → Stepped rule before [] older before (Moved m pen (out ++ []) p (record p { pen = q })) (Ok tt)
stepped_none q a at = record { wrote = record { stands = rw append-nil; cases = rw append-nil a }; goes = record { stands = rw append-nil at; scan = refl; passed = refl; older = refl } }

pub shallow_here : (d : ℕ) (ts : List Token) → Shallow d ts → d ≤ 64
shallow_here d [] h = h
shallow_here d (t ∷ ts) h = h.0
