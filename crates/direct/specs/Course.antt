-- What every list of direct calls comes to.
use Rattle.std.specs.Prelude.{ℕ, min, cond, List, [], ◌∷◌, ◌++◌, length, Some, None, Ok, Err, Option, Result, ◌==◌, nat_le}
use Rattle.lines.specs.Lines.{newlines, widest}
use Rattle.layout.specs.Tokens.{Token}
use Rattle.layout.specs.Layout.{start, pieces, ended, joined, layout}
use Rattle.layout.specs.Passing.{most_held, so_far, written, held_back}
use Rattle.sink.specs.Rule.{Rule, kept}
use Rattle.printer.specs.declared.fault.PrinterFault.TheVariants.{Full}
use Rattle.printer.specs.Printing.{cut_fault}
use Rattle.direct.specs.declared.fault.DirectFault.{DirectFault}
use Rattle.direct.specs.declared.fault.DirectFault.TheVariants.{Tokens, Range, Receipt, Blocks, Unended, Printing}
use Rattle.direct.specs.declared.outcome.Whole.{Whole}
use Rattle.direct.specs.Calls.{Call, call_token, opened, refusal}

-- where a job opens: its number, its margin, its sink's rule and the older text in its sink
pub record Start : Type 0 where
  pub job : ℕ
  pub margin : ℕ
  pub rule : Rule
  pub older : List ℕ

-- a job goes on, with the tokens it was given; or it is broken, with its first fault and the text standing
pub data Course : Type 0 where
  going : List Token → Course
  broken : DirectFault → List ℕ → Course

-- the text standing
abbrev pub standing : Start → Course → List ℕ
standing s (going ts) = written s.margin ts
standing s (broken f text) = text

-- pieces are written behind the older text: what the rule keeps of them, and the fault where that is not all
abbrev pub kept_of : Start → List (List ℕ) → List ℕ
kept_of s ps = kept s.rule.admits s.older (joined ps)

abbrev pub cut_of : Start → List (List ℕ) → DirectFault
cut_of s ps = Printing (cut_fault s.rule s.older (length s.older) 0 ps)

-- a token is laid out behind `ts`: refused by 7 where 384 are held back; else all passes that may, or the sink cuts it
abbrev pub laid : Start → List Token → Token → Course
laid s ts t =
    cond (nat_le most_held (length (held_back s.margin ts))) (broken (Printing (Full (length ts))) (written s.margin ts))
    (cond (s.rule.admits (s.older ++ written s.margin (ts ++ t ∷ []))) (going (ts ++ t ∷ []))
    (broken (cut_of s (so_far s.margin (ts ++ t ∷ [])).pieces) (kept_of s (so_far s.margin (ts ++ t ∷ [])).pieces)))

-- a refusal by 8 or 5 changes nothing, one by 2 or 9 breaks the job
abbrev pub refused : Start → List Token → DirectFault → Course
refused s ts (Tokens n) = broken (Tokens n) (written s.margin ts)
refused s ts (Range n) = going ts
refused s ts (Receipt n) = broken (Receipt n) (written s.margin ts)
refused s ts (Blocks n) = going ts
refused s ts (Unended n) = going ts
refused s ts (Printing f) = going ts

abbrev pub taken_or : Start → List Token → Call → Option DirectFault → Course
taken_or s ts c (Some f) = refused s ts f
taken_or s ts c None = laid s ts (call_token c)

-- one call more; a broken job stays as it is
abbrev pub step : Start → Course → Call → Course
step s (going ts) c = taken_or s ts c (refusal s.job ts c)
step s (broken f text) c = broken f text

-- what a call answers: its own refusal, the fault by which the job broke, or that it was taken
abbrev pub after_laying : Course → Result (Unit {0}) DirectFault
after_laying (going ts) = Ok tt
after_laying (broken f text) = Err f

abbrev pub answer_or : Start → List Token → Call → Option DirectFault → Result (Unit {0}) DirectFault
answer_or s ts c (Some f) = Err f
answer_or s ts c None = after_laying (laid s ts (call_token c))

abbrev pub answer : Start → Course → Call → Result (Unit {0}) DirectFault
answer s (going ts) c = answer_or s ts c (refusal s.job ts c)
answer s (broken f text) c = Err f

-- a list of calls, from the opening on
abbrev pub course_from : Start → Course → List Call → Course
course_from s at [] = at
course_from s at (c ∷ cs) = course_from s (step s at c) cs

abbrev pub course : Start → List Call → Course
course s cs = course_from s (going []) cs

-- the print of tokens, by piece, and its end
abbrev pub print_pieces : ℕ → List Token → List (List ℕ)
print_pieces m ts = pieces m start ts ++ ended ts

-- what a job comes to: a whole print, or a fault
abbrev pub Outcome : Type 0
Outcome = Result Whole DirectFault

-- a whole print: its bytes, its newlines and its widest line, at most 65,535
abbrev pub whole : List ℕ → Outcome
whole print = Ok (record { bytes = length print; newlines = newlines print; widest = min (widest print) 65535 })

-- the drain of a job that goes on: refused by 6 where a block is open; else the end is written, or the sink cuts the print
abbrev pub ends : Start → List Token → Outcome
ends s ts =
    cond (length (opened ts) == 0)
    (cond (s.rule.admits (s.older ++ layout s.margin ts)) (whole (layout s.margin ts)) (Err (cut_of s (print_pieces s.margin ts))))
    (Err (Unended (length ts)))

-- and the text that stands then
abbrev pub leaves : Start → List Token → List ℕ
leaves s ts = cond (length (opened ts) == 0) (kept_of s (print_pieces s.margin ts)) (written s.margin ts)

abbrev pub outcome : Start → Course → Outcome
outcome s (going ts) = ends s ts
outcome s (broken f text) = Err f

abbrev pub left : Start → Course → List ℕ
left s (going ts) = leaves s ts
left s (broken f text) = text
