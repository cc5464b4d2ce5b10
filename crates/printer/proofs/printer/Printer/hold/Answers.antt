use Rattle.std.proofs.Common.{◌<◌, arith, rules}
use Rattle.printer.proofs.Holding.{texts_narrow, held_more}
use Rattle.printer.proofs.printer.Printer.hold.Goals as goal

pub returns-in-Text-clause-holds : goal.returns-in-Text-clause-holds
returns-in-Text-clause-holds c = rw c.in-Text.is (λ m pen h number out pr few narrow next.
    let s = texts_narrow h in
    held_more _ _ pr next (c.push_text.ensures _ _ _ pr.scan few (omega (arith, next.0)) (omega (arith, next.0))))

pub returns-in-Break-clause-holds : goal.returns-in-Break-clause-holds
returns-in-Break-clause-holds c = rw c.in-Break.is (λ m pen h number out pr few narrow next.
    let small : c.in-Break.gap.blanks < 256 = search rules in
    held_more _ _ pr next (c.push_break.ensures _ _ _ pr.scan few (omega arith)))

pub returns-in-Opening-clause-holds : goal.returns-in-Opening-clause-holds
returns-in-Opening-clause-holds c = rw c.in-Opening.is (λ m pen h number out pr few narrow next.
    held_more _ _ pr next (c.push_opening.ensures _ _ _ pr.scan few (omega (arith, next))))

pub returns-in-Ending-clause-holds : goal.returns-in-Ending-clause-holds
returns-in-Ending-clause-holds c = rw c.in-Ending.is (λ m pen h number out pr few narrow next.
    held_more _ _ pr next (c.push_ending.ensures _ _ _ pr.scan few))
