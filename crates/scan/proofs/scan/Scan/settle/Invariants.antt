use Rattle.std.proofs.Common.{ℕ, List, length}
use Rattle.queue.specs.Items.{items}
use Rattle.layout.specs.Tokens.{Token}
use Rattle.scan.specs.Holding.{Holds, Settling}
use Rattle.scan.proofs.scan.Scan.settle.Given as goal

abbrev pub invariant-loop : goal.invariant-loop
invariant-loop l = (k d : ℕ) (h : List Token) → Holds k d h l.initial.self → (b : ℕ) × (c : ℕ) × Settling k b d h c l.self

abbrev pub decreases-loop : goal.decreases-loop
decreases-loop l = length (items l.self.places)
