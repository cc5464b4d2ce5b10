-- When a direct job is whole, and what stands where its sink refused, in the words of its calls.
use Rattle.std.specs.Prelude.{◌≡◌, ℕ, Bool, true, false, cond, ◌&&◌, ◌||◌, List, [], ◌∷◌, ◌++◌, length, Some, None, Ok, Err, Option, nat_lt}
use Rattle.layout.specs.Tokens.{Token}
use Rattle.layout.specs.Layout.{layout}
use Rattle.layout.specs.Passing.{most_held, held_back}
use Rattle.sink.specs.Rule.{kept}
use Rattle.sink.specs.Longest.{Longest}
use Rattle.printer.specs.declared.fault.PrinterFault.TheVariants.{Full, Sink}
use Rattle.direct.specs.declared.fault.DirectFault.{DirectFault}
use Rattle.direct.specs.declared.fault.DirectFault.TheVariants.{Tokens, Range, Receipt, Blocks, Unended, Printing}
use Rattle.direct.specs.Calls.{Call, call_token, opened, refusal}
use Rattle.direct.specs.Course.{Start, Course, going, broken, step, Outcome, whole}

-- the tokens not refused by a direct call's refusal, behind the tokens ts of the job of that number
abbrev pub with_token : List Token → Call → Option DirectFault → List Token
with_token ts c (Some f) = ts
with_token ts c None = ts ++ call_token c ∷ []

abbrev pub given_from : ℕ → List Token → List Call → List Token
given_from job ts [] = ts
given_from job ts (c ∷ cs) = given_from job (with_token ts c (refusal job ts c)) cs

-- a refusal by 2 or 9 breaks the job, one by 8 or 5 does not
abbrev pub breaks : Option DirectFault → Bool
breaks (Some (Tokens n)) = true
breaks (Some (Range n)) = false
breaks (Some (Receipt n)) = true
breaks (Some (Blocks n)) = false
breaks (Some (Unended n)) = false
breaks (Some (Printing f)) = false
breaks None = false

-- did a direct call's refusal break the job?
abbrev pub broken_from : ℕ → List Token → List Call → Bool
broken_from job ts [] = false
broken_from job ts (c ∷ cs) = breaks (refusal job ts c) || broken_from job (with_token ts c (refusal job ts c)) cs

-- was there room for each token: were fewer held back before it than may be?
abbrev pub room_or : ℕ → List Token → Option DirectFault → Bool
room_or m ts (Some f) = true
room_or m ts None = nat_lt (length (held_back m ts)) most_held

abbrev pub room_from : ℕ → ℕ → List Token → List Call → Bool
room_from job m ts [] = true
room_from job m ts (c ∷ cs) = room_or m ts (refusal job ts c) && room_from job m (with_token ts c (refusal job ts c)) cs

-- the tokens of a job's calls that were not refused
abbrev pub given : Start → List Call → List Token
given s calls = given_from s.job [] calls

-- No direct call's refusal broke the job, no block is open, no 7 came, and the rule admits the print behind the older text.
pub record WholeWhen (s : Start) (calls : List Call) : Type 0 where
  pub unbroken : broken_from s.job [] calls ≡ false
  pub balanced : opened (given s calls) ≡ []
  pub room : room_from s.job s.margin [] calls ≡ true
  pub admitted : s.rule.admits (s.older ++ layout s.margin (given s calls)) ≡ true

-- an outcome is whole
abbrev pub IsWhole : Outcome → Type 0
IsWhole (Ok w) = Unit {0}
IsWhole (Err f) = ⊥

-- The outcome is whole exactly then, and it is then that of the layout of the tokens not refused.
pub record WholeExactly (s : Start) (calls : List Call) (o : Outcome) : Type 0 where
  pub when : WholeWhen s calls → o ≡ whole (layout s.margin (given s calls))
  pub only : IsWhole o → WholeWhen s calls

-- the tokens handed to the printer: those not refused by a direct call's refusal, up to the one at which the job broke
abbrev pub goes_on : Course → Bool
goes_on (going ts) = true
goes_on (broken f text) = false

abbrev pub handed_from : Start → List Token → List Call → List Token
handed_from s ts [] = ts
handed_from s ts (c ∷ cs) =
    cond (goes_on (step s (going ts) c)) (handed_from s (with_token ts c (refusal s.job ts c)) cs) (with_token ts c (refusal s.job ts c))

abbrev pub handed : Start → List Call → List Token
handed s calls = handed_from s [] calls

-- a fault of the sink, and an outcome by such a fault
abbrev pub IsSinks : DirectFault → Type 0
IsSinks (Tokens n) = ⊥
IsSinks (Range n) = ⊥
IsSinks (Receipt n) = ⊥
IsSinks (Blocks n) = ⊥
IsSinks (Unended n) = ⊥
IsSinks (Printing (Full n)) = ⊥
IsSinks (Printing (Sink f n)) = Unit {0}

abbrev pub IsCut : Outcome → Type 0
IsCut (Ok w) = ⊥
IsCut (Err f) = IsSinks f

-- Where the sink refused, it holds behind the older text what its rule keeps of the print, the layout of the tokens handed to the printer; and that is the longest beginning of the print that the rule admits there.
pub record CutLongest (s : Start) (calls : List Call) (o : Outcome) (text : List ℕ) : Type 0 where
  pub stands : IsCut o → text ≡ s.older ++ kept s.rule.admits s.older (layout s.margin (handed s calls))
  pub longest : Longest s.rule.admits s.older (layout s.margin (handed s calls))
