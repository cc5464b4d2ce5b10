-- The first n of 255 blanks are n blanks.
use Rattle.std.proofs.Common.{arith}
use Rattle.std.proofs.lemmas.List.{take-replicate}
use Rattle.sink.proofs.write.blanks.Goals as goal

pub returns : goal.returns
returns c = take-replicate c.args.n 255 32 (omega arith)
