use Rattle.std.proofs.Common.{length, ap, ◌∙◌, rules}
use Rattle.std.proofs.lemmas.List.{length-drop}
use Rattle.queue.proofs.Turn.{held_drop}
use Rattle.queue.proofs.drop_front.Goals as goal

pub returns : goal.returns
returns g c =
    let h = held_drop c.args.slots.now c.args.ring.now _ _ _ _ c.count-len.ensures.value (search rules) c.saturating_sub-ring.ensures in
    record { holds = h; count = ap length h ∙ length-drop _ _ }
