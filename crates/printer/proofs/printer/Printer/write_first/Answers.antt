use Rattle.std.proofs.Common.{◌≡◌, arith}
use Rattle.layout.specs.Tokens.{Text, Break, Opening, Ending}
use Rattle.stream.specs.Recorded.{text_of}
use Rattle.printer.proofs.Writes.{stepped_none, shallow_here}
use Rattle.printer.proofs.printer.Printer.write_first.Goals as goal

pub returns-in-Text-clause-writes : goal.returns-in-Text-clause-writes
returns-in-Text-clause-writes g c m pen t ts number out pr is =
    let e : t ≡ Text (text_of t) = grind arith in
    rw e (c.write_text.ensures.writes m pen (text_of t) ts number out (rw e at pr) (grind arith))

pub returns-in-Break-clause-writes : goal.returns-in-Break-clause-writes
returns-in-Break-clause-writes g c m pen t ts number out pr is =
    let e : t ≡ Break c.in-Break.gap.blanks c.in-Break.gap.offset = grind arith in
    rw e (c.write_break.ensures.writes m pen out pr.stands)

pub returns-in-Opening-clause-writes : goal.returns-in-Opening-clause-writes
returns-in-Opening-clause-writes g c m pen t ts number out pr is =
    let o = c.in-Opening.opening in
    let e : t ≡ Opening o.offset o.fold o.anchor = grind arith in
    rw e (stepped_none _ (g.met.S.Sink.laws.held c.args.sink.now) (c.open_block.ensures.opens m pen out pr.stands (shallow_here _ ts (rw e at pr.shallow).1)))

pub returns-in-Ending-clause-writes : goal.returns-in-Ending-clause-writes
returns-in-Ending-clause-writes g c m pen t ts number out pr is =
    let e : t ≡ Ending = grind arith in
    rw e (stepped_none _ (g.met.S.Sink.laws.held c.args.sink.now) (c.end_block.ensures m pen out c.args.fits pr.stands))
