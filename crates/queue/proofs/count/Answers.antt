use Rattle.std.proofs.Common.{sym, ◌∙◌, rules}
use Rattle.queue.proofs.Turn.{length_held}
use Rattle.queue.proofs.count.Goals as goal

pub returns : goal.returns
returns g c = record { value = c.min.ensures ∙ sym (length_held c.args.slots.now c.args.ring.now); within = search rules }
