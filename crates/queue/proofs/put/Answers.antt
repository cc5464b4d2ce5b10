use Rattle.std.proofs.Common.{rules}
use Rattle.std.proofs.lemmas.List.{set_past}
use Rattle.queue.proofs.Turn.{held_put}
use Rattle.queue.proofs.put.Goals as goal

pub returns-then-i-count : goal.returns-then-i-count
returns-then-i-count g c = search (rules, set_past)

pub returns : goal.returns
returns g c =
    record {
      answer = search rules;
      holds = held_put c.args.slots.now c.args.ring.now _ _ _ (search rules) c.place-at.ensures.value;
      same = search rules;
    }
