use Rattle.std.proofs.Common.{arith}
use lib.ListN.{length-replicate}
use Rattle.layout.specs.Layout.{blanks}
use Rattle.lines.proofs.Joins.{flat_blanks}
use Rattle.pen.proofs.Texts.{grown_line}
use Rattle.pen.proofs.pen.Pen.broke.Goals as goal

pub returns-in-Blanks : goal.returns-in-Blanks
returns-in-Blanks c = λ m pen out at.
    let n = c.in-Blanks.n in
    rw c.in-Blanks.is (rw length-replicate at (c.wrote.ensures m pen out (blanks n) at (length-replicate n 0x20) (flat_blanks n)))

pub returns-in-Line : goal.returns-in-Line
returns-in-Line c = λ m pen out at. let g = grown_line out c.in-Line.k in rw c.in-Line.is (grind arith)
