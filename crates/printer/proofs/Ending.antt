-- A token is given, and the document ends.
use Rattle.std.proofs.Common.{◌≡◌, ℕ, suc, ◌+◌, ◌<◌, true, false, List, [], ◌∷◌, ◌++◌, length, Ok, Err, Result, refl, ap, append_assoc, arith}
use Rattle.std.proofs.lemmas.Bool.Decides.{nat_tests}
use Rattle.layout.specs.Tokens.{Token}
use Rattle.layout.specs.Layout.{Pen as LayoutPen, after, fits, joined}
use Rattle.layout.specs.Passing.{most_held, pass}
use Rattle.layout.proofs.Passes.{joined_append}
use Rattle.sink.specs.Rule.{Beginnings, Rule}
use Rattle.printer.specs.declared.fault.PrinterFault.{PrinterFault}
use Rattle.pen.specs.declared.pen.Pen.{Pen}
use Rattle.printer.specs.declared.printer.Printer.{Printer}
use Rattle.printer.specs.Printing.{Passes}
use Rattle.printer.specs.Giving.{Given, end_piece, Ended, Finished}
use Rattle.printer.proofs.Pieces.{printed_cut}

pub given_passes : (m : ℕ) (pen : LayoutPen) (h : List Token) (number : ℕ) (out : List ℕ) (t : Token) (rule : Rule) (before : List ℕ) (older : ℕ) (text : List ℕ) (p : Printer) (Same : Type 0) (r : Result (Unit {0}) PrinterFault) → length h < most_held → Passes false m pen (h ++ t ∷ []) number out rule before older text p r → Given m pen h number out t rule before older text p Same r
given_passes m pen h number out t rule before older text p Same r l ps = grind arith

pub end_some : (n : ℕ) → 0 < n → end_piece n ≡ (0x0A ∷ []) ∷ []
end_some n l = grind (arith, nat_tests)

pass_length : (m : ℕ) (pen : LayoutPen) (ts : List Token) → length (pass true m pen ts).pieces ≡ length ts
pass_length m pen [] = refl
pass_length m pen (t ∷ ts) = ap suc (pass_length m (after m pen t (fits m pen t ts)) ts)

-- the tokens passed, and then the end is written
pub finished_end : (m : ℕ) (pen : LayoutPen) (h : List Token) (number : ℕ) (out : List ℕ) (rule : Rule) (before : List ℕ) (older : ℕ) (text text' : List ℕ) (p : Printer) (p' : Pen) (r : Result (Unit {0}) PrinterFault) → Beginnings rule.admits
    → Passes true m pen h number out rule before older text p (Ok tt)
    → Ended m (number + length (pass true m pen h).pieces) (out ++ joined (pass true m pen h).pieces) rule text older text' p' r
    → Finished m pen h number out rule before older text' p' r
finished_end m pen h number out rule before older text text' p p' (Ok u) beg ps en =
    let qs = (pass true m pen h).pieces in
    let E = end_piece (number + length qs) in
    rw (← pass_length m pen h, joined_append qs E, ← append_assoc before (joined qs) (joined E), ← append_assoc out (joined qs) (joined E), ← ps.0.1) en
finished_end m pen h number out rule before older text text' p p' (Err f) beg ps en =
    let qs = (pass true m pen h).pieces in
    rw (← pass_length m pen h) (printed_cut rule beg before older number qs (end_piece (number + length qs)) text' f (number + length qs) ps.0.0 refl (rw ps.0.1 at en))
