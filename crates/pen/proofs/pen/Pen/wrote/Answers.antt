use Rattle.std.proofs.Common.{arith}
use Rattle.pen.proofs.Texts.{grown_flat}
use Rattle.pen.proofs.pen.Pen.wrote.Goals as goal

pub returns : goal.returns
returns c = λ m pen out bytes at long flat. let g = grown_flat out bytes flat in grind arith
