use Rattle.std.proofs.Common.{arith}
use Rattle.queue.specs.Items.{items}
use Rattle.pen.proofs.Stack.{popped}
use Rattle.pen.proofs.pen.Pen.end_block.Goals as goal

pub returns : goal.returns
returns c = λ m pen out fits at. let p = popped (items c.args.self.now.blocks) in grind arith
