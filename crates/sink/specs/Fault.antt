-- The faults of prints, and what a write leaves and answers.
use Rattle.std.specs.Prelude.{◌≡◌, ℕ, ◌+◌, ◌-◌, ◌<◌, true, List, ◌++◌, length, take, Result, MatchResult}
use Rattle.sink.specs.declared.fault.SinkFault.{SinkFault}
use Rattle.sink.specs.Rule.{Reason, Rule, kept}

-- The fault of a reason, with the length of the print that stands.
abbrev pub fault_for : Reason → ℕ → SinkFault
fault_for why standing = record { number = why.number; kind = why.kind; text = standing }

-- The fault of a run of bytes that the rule cuts behind a text: the reason is that of the first beginning not admitted, and the print that
-- stands is the text without the older bytes that stood before it.
abbrev pub fault_of : Rule → List ℕ → List ℕ → ℕ → SinkFault
fault_of rule before bytes older = fault_for (rule.reason (before ++ take (length (kept rule.admits before bytes) + 1) bytes)) (length (before ++ kept rule.admits before bytes) - older)

-- A run that the rule cuts behind a text, with its fault: not all of it is kept.
abbrev pub Cut : Rule → List ℕ → List ℕ → ℕ → SinkFault → Type 0
Cut rule before bytes older f = (length (kept rule.admits before bytes) < length bytes) × (f ≡ fault_of rule before bytes older)

-- What a write of bytes leaves in a sink s, as t: the text, and behind it what the rule keeps of the bytes.
abbrev pub Leaves : {S : Type 0} → (S → List ℕ) → (S → Rule) → S → List ℕ → S → Type 0
Leaves text rule s bytes t = text t ≡ text s ++ kept (rule s).admits (text s) bytes

-- What a write of bytes into a sink s answers: the text with all of them is admitted, or they are cut.
abbrev pub Answers : {S : Type 0} → (S → List ℕ) → (S → Rule) → S → List ℕ → ℕ → Result (Unit {0}) SinkFault → Type 0
Answers text rule s bytes older r = MatchResult r (λ _. (rule s).admits (text s ++ bytes) ≡ true) (λ f. Cut (rule s) (text s) bytes older f)
