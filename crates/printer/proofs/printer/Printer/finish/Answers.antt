use Rattle.std.proofs.Common.{◌+◌, true, length}
use Rattle.std.proofs.lemmas.Result.{err_from_is_err_and}
use Rattle.layout.specs.Passing.{pass}
use Rattle.printer.specs.Giving.{end_piece}
use Rattle.printer.proofs.Pieces.{printed_front}
use Rattle.printer.proofs.Ending.{finished_end}
use Rattle.printer.proofs.printer.Printer.finish.Goals as goal

pub returns-in_err-pass_all-clause-finishes : goal.returns-in_err-pass_all-clause-finishes
returns-in_err-pass_all-clause-finishes g c m pen h number out pr =
    let k = g.S.Sink in
    let s = c.args.sink.now in
    let laws = g.met.S.Sink.laws in
    let p = err_from_is_err_and c.from_residual.result c.from_residual.ensures.1 in
    rw (p.1, p.2) (printed_front (k.rule s) (laws.beginnings s) (k.text s) c.args.self.now.older number (pass true m pen h).pieces (end_piece (number + length h)) _ _ (laws.held s) (c.in_err-pass_all.ensures.passes m pen h number out pr))

pub returns-clause-finishes : goal.returns-clause-finishes
returns-clause-finishes g c m pen h number out pr =
    let k = g.S.Sink in
    let s = c.args.sink.now in
    let laws = g.met.S.Sink.laws in
    let e = c.in_ok-pass_all.ensures in
    let ps = e.passes m pen h number out pr in
    finished_end m pen h number out (k.rule s) (k.text s) c.args.self.now.older _ _ _ _ _ (laws.beginnings s) ps (rw (e.rule, e.older) at (c.end_line.ensures.ends m _ _ _ _ ps.1))
