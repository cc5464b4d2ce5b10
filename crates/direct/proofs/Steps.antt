-- One call more.
use Rattle.std.proofs.Common.{◌≡◌, ℕ, ◌≤◌, true, false, leb, List, [], ◌∷◌, ◌++◌, length, Some, None, Ok, Err, Option, Result, sym, refl, arith}
use Rattle.std.proofs.lemmas.Bool.{cond_both}
use Rattle.std.proofs.lemmas.Bool.Decides.{nat_tests}
use Rattle.lines.specs.Lines.{newlines}
use Rattle.layout.specs.Tokens.{Token}
use Rattle.layout.specs.Passing.{most_held, written, held_back}
use Rattle.direct.specs.declared.fault.DirectFault.{DirectFault}
use Rattle.direct.specs.declared.fault.DirectFault.TheVariants.{Tokens, Range, Receipt as ReceiptFault, Blocks}
use Rattle.direct.specs.declared.receipt.Receipt.{Receipt}
use Rattle.direct.specs.Calls.{Call, call_token, printable, in_range, opened, met, shallow_enough, refusal}
use Rattle.direct.specs.Asking.{FitToken}
use Rattle.direct.specs.Course.{Start, Course, going, broken, laid, after_laying, taken_or, answer_or, step, answer, course_from, course}
use Rattle.direct.specs.Standing.{Seen, Opened, By, Stands, Laid, QuietOr, Called, Ready, PlainCall, Received}
use Rattle.direct.proofs.Tables.{opened_push}

course_more : (s : Start) (at : Course) (cs : List Call) (c : Call) → course_from s at (cs ++ c ∷ []) ≡ step s (course_from s at cs) c
course_more s at [] c = refl
course_more s at (d ∷ cs) c = course_more s (step s at d) cs c

-- which course a broken job is on, and which an unbroken one
broken_at : (s : Start) (at : Course) (v : Seen) (f : DirectFault) → By s at v → v.fault ≡ Some f → (w : List ℕ) × (at ≡ broken f w)
broken_at s at v f b e = grind arith

pub going_by : (s : Start) (at : Course) (v : Seen) → By s at v → v.fault ≡ None → (ts : List Token) × (at ≡ going ts) × By s (going ts) v
going_by s at v b e = grind arith

pub ready_broken : (s : Start) (calls : List Call) (v : Seen) (f : DirectFault) (Same : Type 0) → Stands s calls v → v.fault ≡ Some f → Same → Ready s calls v Same (Err f)
ready_broken s calls v f Same st e k c =
    let b = broken_at s (course s calls) v f st.by e in
    record { stands = record { opened = st.opened; by = rw (course_more s (going []) calls c, b.1) (rw b.1 at st.by) }; answers = rw b.1; quiet = rw b.1 k }

-- a job that goes on stands where the refusal o leads, or the token, and the call has answered so
called : (s : Start) (calls : List Call) (c : Call) (v : Seen) (r : Result (Unit {0}) DirectFault) (Same : Type 0) (ts : List Token) (o : Option DirectFault) → course s calls ≡ going ts → refusal s.job ts c ≡ o → Opened s v → By s (taken_or s ts c o) v → r ≡ answer_or s ts c o → QuietOr o Same → Called s calls c v r Same
called s calls c v r Same ts o e q op b a k = record { stands = record { opened = op; by = rw (course_more s (going []) calls c, e, q) b }; answers = rw (e, q) a; quiet = rw (e, q) k }

-- the job has 1,000,000 tokens
pub ready_tokens : (s : Start) (calls : List Call) (v : Seen) (Same : Type 0) → Stands s calls v → v.fault ≡ None → 1000000 ≤ v.given → Same → Ready s calls (record v { fault = Some (Tokens v.given) }) Same (Err (Tokens v.given))
ready_tokens s calls v Same st e l k c =
    let g = going_by s (course s calls) v st.by e in
    let n = g.2.0.given in
    called s calls c _ _ Same g.0 (Some (Tokens (length g.0))) g.1 (grind (arith, nat_tests)) (assumption st.opened) (record { fault = cc; stands = g.2.0.text }) (cc) k

-- what a laid token may come to
laid_at : (s : Start) (ts : List Token) (t : Token) (P : Course → Type 0) → ((f : DirectFault) (w : List ℕ) → P (broken f w)) → P (going (ts ++ t ∷ [])) → P (laid s ts t)
laid_at s ts t P b g = cond_both (leb most_held (length (held_back s.margin ts))) _ _ P (λ _. b _ _) (λ _. cond_both (s.rule.admits (s.older ++ written s.margin (ts ++ t ∷ []))) _ _ P (λ _. g) (λ _. b _ _))

-- what laying it out left, and answered
abbrev pub LaidOut : Start → List Token → Token → Seen → Seen → Result (Unit {0}) DirectFault → Type 0
LaidOut s ts t v v' r = Laid s (laid s ts t) v v' × (r ≡ after_laying (laid s ts t))

-- no refusal but that by 1,000,000 tokens keeps a call from being laid out
abbrev pub Fine : ℕ → List Token → Call → Type 0
Fine own ts c = (in_range c ≡ true) × (met own ts c ≡ true) × (shallow_enough ts c ≡ true)

-- a call of a job that goes on is refused before its token is laid out, or not
module _ {s : Start} (calls : List Call) (c : Call) {v : Seen} (Same : Type 0) (rd : Ready s calls v Same (Ok tt)) where
  pub next_range : in_range c ≡ false → Same → Called s calls c v (Err (Range v.given)) Same
  next_range r k = called s calls c v _ Same rd.0 (Some (Range (length rd.0))) rd.1 (grind (arith, nat_tests)) rd.3 (rd.4, rd.5) (cc rd.4.given) k

  pub next_blocks : in_range c ≡ true → met s.job rd.0 c ≡ true → shallow_enough rd.0 c ≡ false → Same → Called s calls c v (Err (Blocks v.given)) Same
  next_blocks r m d k = called s calls c v _ Same rd.0 (Some (Blocks (length rd.0))) rd.1 (grind (arith, nat_tests)) rd.3 (rd.4, rd.5) (cc rd.4.given) k

  pub next_receipt : in_range c ≡ true → met s.job rd.0 c ≡ false → Same → Called s calls c (record v { fault = Some (ReceiptFault v.given) }) (Err (ReceiptFault v.given)) Same
  next_receipt r m k = called s calls c _ _ Same rd.0 (Some (ReceiptFault (length rd.0))) rd.1 (grind (arith, nat_tests)) (assumption rd.3) (record { fault = cc rd.4.given; stands = rd.4.text }) (cc rd.4.given) k

  laid_next : {v' : Seen} {r : Result (Unit {0}) DirectFault} → Fine s.job rd.0 c → Opened s v' → By s (laid s rd.0 (call_token c)) v' → r ≡ after_laying (laid s rd.0 (call_token c)) → Called s calls c v' r Same
  laid_next i o b a = called s calls c _ _ Same rd.0 None rd.1 (grind (arith, nat_tests)) o b a tt

  -- its token was laid out, and broke the job
  pub next_broken : {v' : Seen} {f : DirectFault} → Fine s.job rd.0 c → Opened s v' → LaidOut s rd.0 (call_token c) v v' (Err f) → Called s calls c v' (Err f) Same
  next_broken {v'} {f} i o l = laid_next i o (laid_at s rd.0 (call_token c) (λ x. Laid s x v v' → after_laying x ≡ Err f → By s x v') (λ g w l a. l) (λ l a. cc a) l.0 (sym l.1)) l.1

  -- or was taken, and then the table of open blocks was changed
  pub next_going : {bs : List ℕ} (v' : Seen) → Fine s.job rd.0 c → Opened s v' → LaidOut s rd.0 (call_token c) v v' (Ok tt) → bs ≡ opened (rd.0 ++ call_token c ∷ []) → Called s calls c (record v' { blocks = bs }) (Ok tt) Same
  next_going {bs} v' i o l e = laid_next i (assumption o) (laid_at s rd.0 (call_token c) (λ x. Laid s x v v' → after_laying x ≡ Ok tt → By s x (record v' { blocks = bs })) (λ f w l a. cc a) (λ l a. (assumption l, e)) l.0 (sym l.1)) l.1

  -- or is a Text or a Break, which opens and ends nothing
  pub next_plain : {v' : Seen} {r : Result (Unit {0}) DirectFault} → PlainCall c → in_range c ≡ true → Opened s v' → LaidOut s rd.0 (call_token c) v v' r → Called s calls c v' r Same
  next_plain {v'} p i o l =
      let same : opened (rd.0 ++ call_token c ∷ []) ≡ opened rd.0 = grind (arith, opened_push rd.0 (call_token c)) in
      laid_next (i, grind arith, grind arith) o (laid_at s rd.0 (call_token c) (λ x. Laid s x v v' → By s x v') (λ f w l. l) (λ l. (l.0, cc (l.1, rd.5, same))) l.0) l.1

-- printable bytes hold no newline
no_newline : (bs : List ℕ) → printable bs ≡ true → newlines bs ≡ 0
no_newline [] h = refl
no_newline (b ∷ bs) h = grind (arith, nat_tests, no_newline bs)

pub plain_fit : (ts : List Token) (c : Call) → PlainCall c → in_range c ≡ true → FitToken ts (call_token c)
plain_fit ts c p r = grind (arith, nat_tests, no_newline)

-- an Opening that was refused gives its refusal
pub received_err : {s : Start} {calls : List Call} {c : Call} {v : Seen} {f : DirectFault} {Same : Type 0} → Called s calls c v (Err f) Same → Called s calls c v (answer s (course s calls) c) Same × Received s (course s calls) (answer s (course s calls) c) (Err f)
received_err k = (record { stands = k.stands; answers = refl; quiet = k.quiet }, sym k.answers)

-- one that was taken gives its receipt
pub received_ok : {s : Start} {calls : List Call} {c : Call} {v : Seen} {Same : Type 0} (r : Receipt) (ts : List Token) → Called s calls c v (Ok tt) Same → course s calls ≡ going ts → r.job ≡ s.job → r.token ≡ length ts → Called s calls c v (answer s (course s calls) c) Same × Received s (course s calls) (answer s (course s calls) c) (Ok r)
received_ok r ts k e j t = (record { stands = k.stands; answers = refl; quiet = k.quiet }, (sym k.answers, j, rw e t))
