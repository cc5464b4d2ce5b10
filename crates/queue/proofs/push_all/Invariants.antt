use Rattle.std.proofs.Common.{◌≡◌, ◌++◌, take}
use Rattle.queue.specs.Held.{held}
use Rattle.queue.proofs.push_all.Given as goal

abbrev pub invariant-loop-x : goal.invariant-loop-x
invariant-loop-x g l = held l.slots l.ring ≡ held l.initial.slots l.initial.ring ++ take l.x-index l.xs
