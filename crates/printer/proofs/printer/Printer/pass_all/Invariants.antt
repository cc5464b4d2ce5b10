use Rattle.std.proofs.Common.{◌≡◌, ℕ, List}
use Rattle.layout.specs.Tokens.{Token}
use Rattle.layout.specs.Layout.{Pen as LayoutPen}
use Rattle.printer.specs.Printing.{Prints}
use Rattle.printer.proofs.Course.{Sofar}
use Rattle.printer.proofs.printer.Printer.pass_all.Given as goal

abbrev pub invariant-loop : goal.invariant-loop
invariant-loop g l =
    let k = g.S.Sink in
    record {
      rule : k.rule l.sink ≡ k.rule l.initial.sink;
      later : k.later l.initial.sink l.sink;
      older : l.self.older ≡ l.initial.self.older;
      so : (m : ℕ) (pen : LayoutPen) (h : List Token) (number : ℕ) (out : List ℕ) → Prints m pen h number out l.initial.self → Sofar l.over m pen h number out (k.rule l.initial.sink) (k.text l.initial.sink) l.initial.self.older l.counter l.self (k.text l.sink);
    }
