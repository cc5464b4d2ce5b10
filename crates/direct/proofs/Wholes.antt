-- A job is whole exactly when its calls let it be.
use Rattle.std.proofs.Common.{◌≡◌, ℕ, true, false, List, [], ◌∷◌, ◌++◌, Some, None, Option, sym, refl, append_assoc, arith}
use Rattle.std.proofs.lemmas.List.{append-nil, nil_from_length}
use Rattle.std.proofs.lemmas.Bool.Decides.{nat_tests}
use Rattle.std.proofs.lemmas.Bool.{and_parts, or_parts}
use Rattle.layout.specs.Tokens.{Token}
use Rattle.layout.specs.Layout.{layout}
use Rattle.layout.specs.Passing.{written}
use Rattle.layout.proofs.Passes.{written_begins}
use Rattle.sink.specs.Rule.{Beginnings}
use Rattle.direct.specs.declared.fault.DirectFault.{DirectFault}
use Rattle.direct.specs.Calls.{Call, call_token, opened, refusal}
use Rattle.direct.specs.Course.{Start, Course, going, broken, taken_or, course_from, course, Outcome, outcome}
use Rattle.direct.specs.Laws.{with_token, given_from, breaks, broken_from, room_or, room_from, IsWhole, WholeExactly}

-- a broken course stays broken
pub stays_broken : (s : Start) (f : DirectFault) (w : List ℕ) (cs : List Call) → course_from s (broken f w) cs ≡ broken f w
stays_broken s f w [] = refl
stays_broken s f w (c ∷ cs) = stays_broken s f w cs

-- tokens are only added
given_begins : (job : ℕ) (ts : List Token) (cs : List Call) → (us : List Token) × (given_from job ts cs ≡ ts ++ us)
given_begins job ts [] = ([], sym (append-nil ts))
given_begins job ts (c ∷ cs) =
    let more : (o : Option DirectFault) → (us : List Token) × (with_token ts c o ≡ ts ++ us) = elim [ None ↦ (call_token c ∷ [], refl) | Some f ↦ ([], sym (append-nil ts)) ] in
    let m = more (refusal job ts c) in
    let rest = given_begins job (with_token ts c (refusal job ts c)) cs in
    (m.0 ++ rest.0, rw (← append_assoc ts m.0 rest.0, ← m.1) rest.1)

-- what one call does where it neither breaks the job nor lacks room, and the rule admits what is written then
step_goes : (s : Start) (ts : List Token) (c : Call) (o : Option DirectFault) → breaks o ≡ false → room_or s.margin ts o ≡ true → s.rule.admits (s.older ++ written s.margin (with_token ts c o)) ≡ true → taken_or s ts c o ≡ going (with_token ts c o)
step_goes s ts c o b r a = grind (arith, nat_tests)

-- the text written begins the print, and so is admitted with it
admitted_so_far : (s : Start) → Beginnings s.rule.admits → (ts : List Token) (cs : List Call) → s.rule.admits (s.older ++ layout s.margin (given_from s.job ts cs)) ≡ true → s.rule.admits (s.older ++ written s.margin ts) ≡ true
admitted_so_far s beg ts cs a =
    let g = given_begins s.job ts cs in
    let b = written_begins s.margin ts g.0 in
    beg (s.older ++ written s.margin ts) b.0 (rw (append_assoc, ← b.1, ← g.1) a)

course_goes : (s : Start) → Beginnings s.rule.admits → (ts : List Token) (cs : List Call) → broken_from s.job ts cs ≡ false → room_from s.job s.margin ts cs ≡ true → s.rule.admits (s.older ++ layout s.margin (given_from s.job ts cs)) ≡ true → course_from s (going ts) cs ≡ going (given_from s.job ts cs)
course_goes s beg ts [] b r a = refl
course_goes s beg ts (c ∷ cs) b r a =
    let o = refusal s.job ts c in
    let next = with_token ts c o in
    let bs = or_parts (breaks o) _ b in
    let rs = and_parts (room_or s.margin ts o) _ r in
    rw (step_goes s ts c o bs.0 rs.0 (admitted_so_far s beg next cs a)) (course_goes s beg next cs bs.1 rs.1 a)

-- a step that goes on broke nothing and had room
pub record Went (s : Start) (ts : List Token) (c : Call) (o : Option DirectFault) : Type 0 where
  pub next : taken_or s ts c o ≡ going (with_token ts c o)
  pub kept : breaks o ≡ false
  pub room : room_or s.margin ts o ≡ true

pub step_went : (s : Start) (ts : List Token) (c : Call) (o : Option DirectFault) (cs : List Call) (us : List Token) → course_from s (taken_or s ts c o) cs ≡ going us → Went s ts c o
step_went s ts c o cs us e = grind (arith, nat_tests, stays_broken)

-- calls that lead on broke nothing, had room, and gave their tokens
record Led (s : Start) (ts : List Token) (cs : List Call) (us : List Token) : Type 0 where
  tokens : us ≡ given_from s.job ts cs
  unbroken : broken_from s.job ts cs ≡ false
  room : room_from s.job s.margin ts cs ≡ true

course_led : (s : Start) (ts : List Token) (cs : List Call) (us : List Token) → course_from s (going ts) cs ≡ going us → Led s ts cs us
course_led s ts [] us e = record { tokens = cc; unbroken = refl; room = refl }
course_led s ts (c ∷ cs) us e =
    let o = refusal s.job ts c in
    let w = step_went s ts c o cs us e in
    let rest = course_led s (with_token ts c o) cs us (rw w.next at e) in
    grind (arith, nat_tests)

-- which course a whole outcome comes of
whole_course : (s : Start) (at : Course) → IsWhole (outcome s at) → (us : List Token) × (at ≡ going us) × (opened us ≡ []) × (s.rule.admits (s.older ++ layout s.margin us) ≡ true)
whole_course s (broken f w) i = absurd i
whole_course s (going us) i = grind (arith, nat_tests, nil_from_length (opened us))

pub whole_exactly : (s : Start) (calls : List Call) (o : Outcome) → Beginnings s.rule.admits → o ≡ outcome s (course s calls) → WholeExactly s calls o
whole_exactly s calls o beg e =
    record {
      when = λ w. let g = course_goes s beg [] calls w.unbroken w.room w.admitted in grind (arith, nat_tests);
      only = λ i.
          let c = whole_course s (course s calls) (rw e at i) in
          let l = course_led s [] calls c.0 c.1 in
          record { unbroken = l.unbroken; balanced = rw l.tokens at c.2; room = l.room; admitted = rw l.tokens at c.3 };
    }
