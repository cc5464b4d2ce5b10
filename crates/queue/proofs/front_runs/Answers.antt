use Rattle.queue.proofs.Turn.{held_runs}
use Rattle.queue.proofs.front_runs.Goals as goal

pub returns : goal.returns
returns g c =
    held_runs c.args.slots.now c.args.ring.now _ _ _ _ _ _ _ c.count.ensures.value c.min-n.ensures c.min.ensures c.split_at.ensures.front c.split_at.ensures.back c.min-first.ensures
