-- What stands where the sink refused is kept of the whole print.
use Rattle.std.proofs.Common.{◌≡◌, ℕ, true, false, cond, List, [], ◌∷◌, ◌++◌, Option, refl, arith}
use Rattle.std.proofs.lemmas.List.{append-nil}
use Rattle.std.proofs.lemmas.Bool.Decides.{nat_tests}
use Rattle.layout.specs.Tokens.{Token}
use Rattle.layout.specs.Layout.{layout}
use Rattle.layout.specs.Passing.{written}
use Rattle.layout.proofs.Passes.{written_begins}
use Rattle.sink.specs.Rule.{Beginnings, kept}
use Rattle.sink.proofs.Kept.{kept_front, kept_longest}
use Rattle.direct.specs.declared.fault.DirectFault.{DirectFault}
use Rattle.direct.specs.Calls.{Call, refusal}
use Rattle.direct.specs.Course.{Start, Course, going, broken, standing, taken_or, course_from, course, Outcome, outcome, left}
use Rattle.direct.specs.Laws.{with_token, goes_on, handed_from, handed, IsSinks, IsCut, CutLongest}
use Rattle.direct.proofs.Wholes.{stays_broken, step_went}

-- what the rule keeps of the print of ts
abbrev kept_print : Start → List Token → List ℕ
kept_print s ts = kept s.rule.admits s.older (layout s.margin ts)

-- what is written begins the print: where it is cut, no more is kept of the print
written_cut : (s : Start) (ts : List Token) → s.rule.admits s.older ≡ true → s.rule.admits (s.older ++ written s.margin ts) ≡ false → kept s.rule.admits s.older (written s.margin ts) ≡ kept_print s ts
written_cut s ts held over =
    let b = written_begins s.margin ts [] in
    cc (rw append-nil at b.1, kept_front s.rule.admits s.older (written s.margin ts) b.0 held over)

-- a course that the sink's refusal broke
abbrev BySink : Course → Type 0
BySink (going ts) = ⊥
BySink (broken f text) = IsSinks f

-- behind a first step x that hands over the tokens us
abbrev Cut : Start → List Call → List Token → Course → Type 0
Cut s cs us x = BySink (course_from s x cs) → standing s (course_from s x cs) ≡ kept_print s (cond (goes_on x) (handed_from s us cs) us)

step_cut : (s : Start) (ts : List Token) (c : Call) (o : Option DirectFault) (cs : List Call) → s.rule.admits s.older ≡ true → Cut s cs (with_token ts c o) (going (with_token ts c o)) → Cut s cs (with_token ts c o) (taken_or s ts c o)
step_cut s ts c o cs held rest i = grind (arith, nat_tests, stays_broken, written_cut s)

course_cut : (s : Start) (ts : List Token) (cs : List Call) → s.rule.admits s.older ≡ true → Cut s cs ts (going ts)
course_cut s ts [] held i = absurd i
course_cut s ts (c ∷ cs) held i = step_cut s ts c (refusal s.job ts c) cs held (course_cut s (with_token ts c (refusal s.job ts c)) cs held) i

-- a job that goes on has handed its tokens over
course_handed : (s : Start) (ts : List Token) (cs : List Call) (us : List Token) → course_from s (going ts) cs ≡ going us → handed_from s ts cs ≡ us
course_handed s ts [] us e = cc
course_handed s ts (c ∷ cs) us e =
    let o = refusal s.job ts c in
    let w = step_went s ts c o cs us e in
    rw w.next (course_handed s (with_token ts c o) cs us (rw w.next at e))

left_cut : (s : Start) (calls : List Call) → s.rule.admits s.older ≡ true → (at : Course) → course s calls ≡ at → IsCut (outcome s at) → left s at ≡ kept_print s (handed s calls)
left_cut s calls held (broken f w) e i = (rw e at (course_cut s [] calls held)) i
left_cut s calls held (going us) e i = grind (arith, nat_tests, course_handed s [] calls us e)

pub cut_longest : (s : Start) (calls : List Call) (o : Outcome) (text : List ℕ) → Beginnings s.rule.admits → s.rule.admits s.older ≡ true → o ≡ outcome s (course s calls) → text ≡ s.older ++ left s (course s calls) → CutLongest s calls o text
cut_longest s calls o text beg held e t =
    record {
      stands = λ i. rw (left_cut s calls held (course s calls) refl (rw e at i)) at t;
      longest = kept_longest s.rule.admits beg s.older (layout s.margin (handed s calls)) held;
    }
