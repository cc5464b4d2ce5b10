use Rattle.std.proofs.Common.{rules}
use Rattle.queue.proofs.Turn.{held_none, held_front, fewer_front}
use Rattle.queue.proofs.pop_front.Goals as goal

pub returns-then-len-eq0 : goal.returns-then-len-eq0
returns-then-len-eq0 g c = search (rules, held_none)

pub returns : goal.returns
returns g c =
    let h = held_front c.args.slots.now c.args.ring.now _ _ _ c.count-len.ensures.value (search rules) c.place-at.ensures.value c.index-slots-at.is in
    record { holds = h; count = fewer_front _ _ _ h }
