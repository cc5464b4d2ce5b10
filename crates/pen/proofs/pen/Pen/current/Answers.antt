use Rattle.queue.specs.Items.{items}
use Rattle.pen.proofs.Stack.{innermost_is}
use Rattle.pen.proofs.pen.Pen.current.Goals as goal

pub returns : goal.returns
returns c = let i = innermost_is (items c.args.self.now.blocks) in cc
