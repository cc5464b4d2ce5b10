use Rattle.std.proofs.Common.{rules}
use Rattle.queue.proofs.Turn.{held_push}
use Rattle.queue.proofs.push_back.Goals as goal

pub returns : goal.returns
returns g c =
    record {
      answer = search rules;
      holds = held_push c.args.slots.now c.args.ring.now _ _ _ c.count-len.ensures.value (search rules) c.place-at.ensures.value;
      same = search rules;
    }
