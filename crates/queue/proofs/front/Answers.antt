use Rattle.queue.proofs.Turn.{by_first}
use Rattle.queue.proofs.front.Goals as goal

pub returns : goal.returns
returns g c = record { holds = by_first _ _ c.get.ensures.holds }
