use Rattle.std.proofs.Common.{◌≡◌}
use Rattle.words.proofs.words.handing.WordsIterator.next.Given as goal

abbrev pub invariant-loop-item : goal.invariant-loop-item
invariant-loop-item g l = (l.self.text ≡ l.initial.self.text) × (l.self.left ≡ l.initial.self.left)

abbrev pub decreases-loop-item : goal.decreases-loop-item
decreases-loop-item g l = l.self.unread
