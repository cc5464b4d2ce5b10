use Rattle.std.proofs.Common.{◌≡◌, Ok, [], ◌∷◌, arith}
use Rattle.printer.specs.Writing.{Wrote}
use Rattle.printer.proofs.Advances.{wrote_whole}
use Rattle.printer.proofs.Ending.{end_some}
use Rattle.printer.proofs.printer.Printer.end_line.Goals as goal

pub returns-clause-ends : goal.returns-clause-ends
returns-clause-ends g c m pen h number out pr =
    let k = g.S.Sink in
    let s = c.args.sink.now in
    let w : Wrote (k.rule s) (k.text s) (10 ∷ []) c.args.self.now.older (k.text c.write_line.new.sink) c.write_line.result = record { stands = c.write_line.ensures.text; cases = c.write_line.ensures.cases } in
    let ok : c.write_line.result ≡ Ok tt = grind arith in
    let n = pr.passed in
    rw (end_some number (omega (arith, c.if-self-eq0.false))) (wrote_whole (g.met.S.Sink.laws.beginnings s) ok w, (_, c.broke.ensures m pen out pr.stands))
