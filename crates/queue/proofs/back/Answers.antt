use Rattle.std.proofs.Common.{rules}
use Rattle.queue.proofs.Turn.{held_none, by_last}
use Rattle.queue.proofs.back.Goals as goal

pub returns-then-len-eq0 : goal.returns-then-len-eq0
returns-then-len-eq0 g c = search (rules, held_none)

pub returns : goal.returns
returns g c = record { holds = by_last _ _ _ c.count-len.ensures.value (search rules) c.get.ensures.holds }
