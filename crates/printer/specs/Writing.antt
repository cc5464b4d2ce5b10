-- What a write leaves.
use Rattle.std.specs.Prelude.{◌≡◌, ℕ, true, List, ◌++◌, Result, MatchResult}
use Rattle.sink.specs.declared.fault.SinkFault.{SinkFault}
use Rattle.sink.specs.Rule.{Rule, kept}
use Rattle.sink.specs.Fault.{Cut}

-- A run of bytes was written behind a text: what the rule keeps of it stands, and that is all of it, or the fault says where it is cut.
pub record Wrote (rule : Rule) (before bytes : List ℕ) (older : ℕ) (text : List ℕ) (r : Result (Unit {0}) SinkFault) : Type 0 where
  pub stands : text ≡ before ++ kept rule.admits before bytes
  pub cases : MatchResult r (λ _. rule.admits (before ++ bytes) ≡ true) (λ f. Cut rule before bytes older f)
