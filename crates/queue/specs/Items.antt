-- The elements of a queue that owns its slots.
use Rattle.std.specs.Prelude.{ℕ, List}
use Rattle.queue.specs.declared.owned.Queue.{Queue}
use Rattle.queue.specs.Held.{held}

-- first to last
unfoldable pub items : {X : Type 0} {N : ℕ} → Queue X N → List X
items q = held q.slots q.ring
