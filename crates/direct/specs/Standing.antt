-- Where a job stands after a list of calls.
use Rattle.std.specs.Prelude.{◌≡◌, ℕ, ◌<◌, ◌≤◌, true, List, [], ◌∷◌, ◌++◌, reverse, length, Some, None, Ok, Err, Option, Result}
use Rattle.layout.specs.Tokens.{Token}
use Rattle.layout.specs.Passing.{so_far, written, held_back}
use Rattle.sink.specs.Rule.{Rule, Beginnings}
use Rattle.printer.specs.declared.printer.Printer.{Printer}
use Rattle.printer.specs.Printing.{Prints}
use Rattle.direct.specs.declared.fault.DirectFault.{DirectFault}
use Rattle.direct.specs.declared.receipt.Receipt.{Receipt}
use Rattle.direct.specs.declared.job.DirectJob.{DirectJob}
use Rattle.direct.specs.Calls.{Call, text_call, break_call, opening_call, ending_call, opened, refusal}
use Rattle.direct.specs.Course.{Start, Course, going, broken, course, laid, answer, Outcome, outcome, left}

-- a job as plain values: its sink's text and rule, its printer, its number, its count of tokens, the numbers of its open blocks, and its fault
pub record Seen : Type 0 where
  pub text : List ℕ
  pub rule : Rule
  pub printer : Printer
  pub job : ℕ
  pub given : ℕ
  pub blocks : List ℕ
  pub fault : Option DirectFault

abbrev pub seen : {S : Type 0} → (S → List ℕ) → (S → Rule) → DirectJob S → Seen
seen text rule j =
    record { text = text j.sink; rule = rule j.sink; printer = j.printer; job = j.number; given = j.given; blocks = reverse j.blocks.items; fault = j.fault }

-- what no call changes
pub record Opened (s : Start) (v : Seen) : Type 0 where
  pub least : 16 ≤ s.margin
  pub most : s.margin ≤ 120
  pub beginnings : Beginnings s.rule.admits
  pub held : s.rule.admits s.older ≡ true
  pub rule : v.rule ≡ s.rule
  pub job : v.job ≡ s.job
  pub older : v.printer.older ≡ length s.older

-- a job that goes on, with the tokens ts: it has written what the layout has, passing all it may
pub record Goes (s : Start) (ts : List Token) (v : Seen) : Type 0 where
  pub unbroken : v.fault ≡ None
  pub text : v.text ≡ s.older ++ written s.margin ts
  pub prints : Prints s.margin (so_far s.margin ts).pen (held_back s.margin ts) (length (so_far s.margin ts).pieces) (written s.margin ts) v.printer
  pub given : v.given ≡ length ts

-- a broken job
pub record Broke (s : Start) (f : DirectFault) (text : List ℕ) (v : Seen) : Type 0 where
  pub fault : v.fault ≡ Some f
  pub stands : v.text ≡ s.older ++ text

abbrev pub By : Start → Course → Seen → Type 0
By s (going ts) v = Goes s ts v × (v.blocks ≡ opened ts)
By s (broken f text) v = Broke s f text v

-- the job was opened there, and these calls were made
pub record Stands (s : Start) (calls : List Call) (v : Seen) : Type 0 where
  pub opened : Opened s v
  pub by : By s (course s calls) v

-- a token was laid out behind ts: the table of open blocks is still as it was
abbrev pub Laid : Start → Course → Seen → Seen → Type 0
Laid s (going ts) before v = Goes s ts v × (v.blocks ≡ before.blocks)
Laid s (broken f text) before v = Broke s f text v

-- a token was laid out behind ts, or broke the job
abbrev pub Lay : Start → List Token → Token → Seen → Result (Unit {0}) DirectFault → Type 0
Lay s ts t v (Ok u) = (laid s ts t ≡ going (ts ++ t ∷ [])) × Goes s (ts ++ t ∷ []) v
Lay s ts t v (Err f) = (text : List ℕ) × (laid s ts t ≡ broken f text) × (v.text ≡ s.older ++ text)

-- the fault of a job
abbrev pub fault_of : Course → Option DirectFault
fault_of (going ts) = None
fault_of (broken f text) = Some f

-- Same where the job was broken before the call, or the call was refused before its token was laid out
abbrev pub QuietOr : Option DirectFault → Type 0 → Type 0
QuietOr (Some f) Same = Same
QuietOr None Same = Unit {0}

abbrev pub Quiet : Start → Course → Call → Type 0 → Type 0
Quiet s (going ts) c Same = QuietOr (refusal s.job ts c) Same
Quiet s (broken f text) c Same = Same

-- a call was made: where the job stands then, what it answered, and that the sink is the Same where no token was laid out
pub record Called (s : Start) (calls : List Call) (c : Call) (v : Seen) (r : Result (Unit {0}) DirectFault) (Same : Type 0) : Type 0 where
  pub stands : Stands s (calls ++ c ∷ []) v
  pub answers : r ≡ answer s (course s calls) c
  pub quiet : Quiet s (course s calls) c Same

-- a call may be made; or, whatever it is, it is refused
abbrev pub Ready : Start → List Call → Seen → Type 0 → Result (Unit {0}) DirectFault → Type 0
Ready s calls v Same (Ok u) = (ts : List Token) × (course s calls ≡ going ts) × (length ts < 1000000) × Opened s v × Goes s ts v × (v.blocks ≡ opened ts)
Ready s calls v Same (Err f) = (c : Call) → Called s calls c v (Err f) Same

-- a Text or a Break
abbrev pub PlainCall : Call → Type 0
PlainCall (text_call bytes) = Unit {0}
PlainCall (break_call blanks offset) = Unit {0}
PlainCall (opening_call offset fold anchor) = ⊥
PlainCall (ending_call job number) = ⊥

-- the count of tokens of a job that goes on
abbrev pub count_of : Course → ℕ
count_of (going ts) = length ts
count_of (broken f text) = 0

-- what an Opening gives: the receipt with the job's number and its own token number, or the refusal
abbrev pub Received : Start → Course → Result (Unit {0}) DirectFault → Result Receipt DirectFault → Type 0
Received s at answered (Ok r) = (answered ≡ Ok tt) × (r.job ≡ s.job) × (r.token ≡ count_of at)
Received s at answered (Err f) = answered ≡ Err f

-- a drain: what the job came to, and the text that stands then
abbrev pub Closed : Start → Course → List ℕ → Outcome → Type 0
Closed s at text o = (o ≡ outcome s at) × (text ≡ s.older ++ left s at)
