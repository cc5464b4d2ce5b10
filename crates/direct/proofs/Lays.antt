-- A token is laid out behind the others.
use Rattle.std.proofs.Common.{◌≡◌, ℕ, suc, ◌≤◌, true, false, List, [], ◌∷◌, ◌++◌, length, Ok, Err, Result, ap, ◌∙◌, append_assoc, arith}
use Rattle.std.proofs.lemmas.List.{length-append, length_push}
use Rattle.std.proofs.lemmas.Bool.Decides.{nat_tests}
use Rattle.layout.specs.Tokens.{Token, widths}
use Rattle.layout.specs.Layout.{Pen, start, joined}
use Rattle.layout.specs.Passing.{Passed, pass, so_far, written, held_back}
use Rattle.layout.proofs.Passes.{passing_joins, joined_append, held_is_narrow}
use Rattle.sink.proofs.Kept.{kept_over}
use Rattle.printer.specs.declared.fault.PrinterFault.{PrinterFault}
use Rattle.printer.specs.declared.fault.PrinterFault.TheVariants.{Full, Sink}
use Rattle.printer.specs.Printing.{Prints}
use Rattle.printer.specs.Giving.{Next, Given}
use Rattle.printer.proofs.Pieces.{printed_cut}
use Rattle.direct.specs.declared.fault.DirectFault.TheVariants.{Printing}
use Rattle.direct.specs.Asking.{FitToken, Fit}
use Rattle.direct.specs.Course.{Start, kept_of}
use Rattle.direct.specs.Standing.{Seen, Opened, Goes, Lay}
use Rattle.direct.proofs.Passings.{pass_count, pass_nest}

-- what the printer of the job v, which is v' then, answers to the token t
abbrev pub Answered : Token → Seen → Seen → Type 0 → Result (Unit {0}) PrinterFault → Type 0
Answered t v v' Same r = (m : ℕ) (pen : Pen) (h : List Token) (number : ℕ) (out : List ℕ) → Prints m pen h number out v.printer → widths h ≤ 120 → Next (length pen.blocks) h t → Given m pen h number out t v.rule v.text v.printer.older v'.text v'.printer Same r

-- what may be laid out may be given to the printer
next_fit : (m : ℕ) (ts : List Token) (t : Token) → FitToken ts t → Next (length (so_far m ts).pen.blocks) (held_back m ts) t
next_fit m ts t f = grind (arith, pass_nest false m start ts)

module _ (s : Start) (ts : List Token) (t : Token) (v v' : Seen) (Same : Type 0) (o : Opened s v) (g : Goes s ts v) (f : Fit ts t) where
  given_so : (r : Result (Unit {0}) PrinterFault) → Answered t v v' Same r → Given s.margin (so_far s.margin ts).pen (held_back s.margin ts) (length (so_far s.margin ts).pieces) (written s.margin ts) t v.rule v.text v.printer.older v'.text v'.printer Same r
  given_so r a = a s.margin _ _ _ _ g.prints (omega (arith, o.most, held_is_narrow s.margin ts)) (next_fit s.margin ts t f.1)

  -- the token passes with all that may
  pub lay_ok : Answered t v v' Same (Ok tt) → v'.fault ≡ v.fault → v'.given ≡ suc v.given → Lay s ts t v' (Ok tt)
  lay_ok answered ef eg =
      let a = given_so (Ok tt) answered in
      let m = s.margin in
      let ps = (so_far m ts).pieces in
      let P = pass false m (so_far m ts).pen (held_back m ts ++ t ∷ []) in
      let joins = passing_joins false m start ts (t ∷ []) in
      let whole : s.older ++ written m (ts ++ t ∷ []) ≡ v.text ++ joined P.pieces = rw (joins, joined_append ps P.pieces, g.text, append_assoc) in
      let fit : s.rule.admits (s.older ++ written m (ts ++ t ∷ [])) ≡ true = cc (whole, o.rule, a.1.0.0) in
      let n = length_push ts t in
      let e = g.given in (
        grind (arith, nat_tests, a.0),
        record { unbroken = ef ∙ g.unbroken; text = a.1.0.1 ∙ rw whole; prints = rw (joins, held_back, length-append, joined_append ps P.pieces) a.1.1; given = omega arith },
      )

  -- there is no room, or the sink cuts what passes
  pub lay_err : (x : PrinterFault) → v.rule.admits v.text ≡ true → Answered t v v' Same (Err x) → (Same → v'.text ≡ v.text) → Lay s ts t v' (Err (Printing x))
  lay_err (Full k) fits answered same =
      let a = given_so (Err (Full k)) answered in
      let few = f.0 in
      (written s.margin ts, grind (arith, nat_tests, pass_count false s.margin start ts), same a.2 ∙ g.text)
  lay_err (Sink y k) fits answered same =
      let a = given_so (Err (Sink y k)) answered in
      let m = s.margin in
      let ps = (so_far m ts).pieces in
      let P = pass false m (so_far m ts).pen (held_back m ts ++ t ∷ []) in
      let all = (so_far m (ts ++ t ∷ [])).pieces in
      let more : all ≡ ps ++ P.pieces = ap (λ (p : Passed). p.pieces) (passing_joins false m start ts (t ∷ [])) in
      let here = printed_cut s.rule o.beginnings s.older (length s.older) 0 ps P.pieces v'.text (Sink y k) _ (rw (o.rule, g.text) at fits) (omega arith) (rw (o.rule, g.text, o.older) at a.1) in
      let pr = rw (← more) at here in
      let over = kept_over s.rule.admits o.beginnings s.older (joined all) pr.0 in
      (kept_of s all, grind (arith, nat_tests), pr.2)
