use Rattle.std.proofs.Common.{ap, arith}
use Rattle.printer.specs.declared.fault.PrinterFault.TheVariants.{Full}
use Rattle.printer.proofs.printer.Printer.room.Goals as goal

pub returns-then-count-ge-MOST : goal.returns-then-count-ge-MOST
returns-then-count-ge-MOST c m pen h number out pr =
    let n = c.count.ensures.value _ _ h pr.scan in
    (omega (arith, c.count.ensures.most, c.if-count-ge-MOST.true), ap Full (omega (arith, pr.passed, c.saturating_add.ensures)))

pub returns : goal.returns
returns c m pen h number out pr = omega (arith, c.count.ensures.value _ _ h pr.scan, c.if-count-ge-MOST.false)
