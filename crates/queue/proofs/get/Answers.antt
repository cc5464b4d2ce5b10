use Rattle.std.proofs.Common.{◌<◌, length, rules}
use Rattle.queue.proofs.Turn.{held_at}
use Rattle.queue.specs.Held.{held}
use Rattle.queue.proofs.get.Goals as goal

pub returns : goal.returns
returns g c =
    let below : c.args.i < length (held c.args.slots.now c.args.ring.now) = search rules in
    record { holds = (below, held_at c.args.slots.now c.args.ring.now _ _ _ below c.place.ensures.value c.index-slots-place.is) }
