-- The first token passes, or the sink cuts it.
use Rattle.std.proofs.Common.{◌≡◌, ℕ, suc, ◌+◌, ◌-◌, ◌^◌, min, Bool, true, List, [], ◌∷◌, ◌++◌, length, Some, None, Ok, Err, Result, refl, arith}
use Rattle.std.proofs.lemmas.Bool.Decides.{nat_tests}
use Rattle.layout.specs.Tokens.{Token}
use Rattle.layout.specs.Layout.{Pen as LayoutPen, writes, after}
use Rattle.layout.specs.Passing.{pass}
use Rattle.layout.specs.declared.token.Token.{Token as Held}
use Rattle.stream.specs.Recorded.{shape, deeper}
use Rattle.scan.specs.Holding.{Holds}
use Rattle.scan.specs.declared.scan.Scan.{Scan}
use Rattle.sink.specs.declared.fault.SinkFault.{SinkFault}
use Rattle.sink.specs.Rule.{Beginnings, Rule}
use Rattle.sink.proofs.Kept.{kept_all}
use Rattle.printer.specs.declared.fault.PrinterFault.{PrinterFault}
use Rattle.printer.specs.declared.printer.Printer.{Printer}
use Rattle.printer.specs.Faults.{numbered}
use Rattle.printer.specs.Writing.{Wrote}
use Rattle.printer.specs.Printing.{Prints, Turned, Moved, Stepped, Advanced}

-- a run that was written whole
pub wrote_whole : {rule : Rule} {before bytes : List ℕ} {older : ℕ} {text : List ℕ} {r : Result (Unit {0}) SinkFault} {u : Unit {0}} → Beginnings rule.admits → r ≡ Ok u → Wrote rule before bytes older text r → (rule.admits (before ++ bytes) ≡ true) × (text ≡ before ++ bytes)
wrote_whole {rule} {before} {bytes} beg e w =
    let fit = (rw e at w).cases in
    (fit, rw kept_all at w.stands)

pub blocks_after : (m : ℕ) (pen : LayoutPen) (t : Token) (f : Bool) → length (after m pen t f).blocks ≡ deeper (length pen.blocks) t
blocks_after m pen t f = grind arith

-- nothing passes
pub waits_here : (over : Bool) (m : ℕ) (pen : LayoutPen) (h : List Token) → Turned over m pen h None → pass over m pen h ≡ record { pieces = []; pen = pen; held = h }
waits_here over m pen h t = grind (arith, nat_tests)

-- what writing the first token comes to
abbrev pub FirstStepped : ℕ → LayoutPen → ℕ → List ℕ → Held ℕ → Bool → Rule → List ℕ → ℕ → List ℕ → Printer → Printer → Result (Unit {0}) SinkFault → Type 0
FirstStepped m pen number out s f rule before older text p p' r = (t : Token) (ts : List Token) → Prints m pen (t ∷ ts) number out p → s ≡ shape t → Stepped rule before (writes m pen t f) older text (Moved m (after m pen t f) (out ++ writes m pen t f) p p') r

module _ (over : Bool) {m : ℕ} {pen : LayoutPen} {number : ℕ} {out : List ℕ} {s : Held ℕ} (f : Bool) {rule : Rule} {before : List ℕ} {older : ℕ} {text : List ℕ} {p p' : Printer} where
  pub advance_cut : (h : List Token) (r : Result (Unit {0}) SinkFault) {fault : PrinterFault} → Turned over m pen h (Some (s, f)) → Prints m pen h number out p → FirstStepped m pen number out s f rule before older text p p' r → numbered p.passed r ≡ Err fault
      → Advanced over m pen h number out rule before older text p' (Err fault)
  advance_cut [] r tn pr st e = absurd tn
  advance_cut (t ∷ ts) (Ok u) tn pr st e = cc e
  advance_cut (t ∷ ts) (Err g) tn pr st e =
      let w = (st t ts pr tn.1).wrote in
      (record { first = t; rest = ts; is = refl; decides = tn.0 }, g, rw tn.2 at w.cases, rw tn.2 at w.stands, cc (e, pr.passed))

  pub advance_ok : (h : List Token) (r : Result (Unit {0}) SinkFault) {u : Unit {0}} {scan : Scan} {passed : ℕ} → Beginnings rule.admits → Turned over m pen h (Some (s, f)) → Prints m pen h number out p → FirstStepped m pen number out s f rule before older text p p' r → numbered p.passed r ≡ Ok u
      → ((k d : ℕ) (t : Token) (ts : List Token) → Holds k d (t ∷ ts) p'.scan → Holds (suc k) (deeper d t) ts scan) → passed ≡ min (p.passed + 1) (2 ^ 64 - 1)
      → Advanced over m pen h number out rule before older text (record p' { scan = scan; passed = passed }) (Ok true)
  advance_ok [] r beg tn pr st e drop count = absurd tn
  advance_ok (t ∷ ts) (Err g) beg tn pr st e drop count = cc e
  advance_ok (t ∷ ts) (Ok v) beg tn pr st e drop count =
      let stp = st t ts pr tn.1 in
      let w = wrote_whole beg refl stp.wrote in
      let deep = blocks_after m pen t f in
      let n = pr.passed in (
        record { first = t; rest = ts; is = refl; decides = tn.0 },
        rw tn.2 at w.0,
        rw tn.2 at w.1,
        rw (← tn.2, ← tn.3) (record {
          scan = rw deep (drop _ _ t ts (rw stp.goes.scan pr.scan));
          stands = stp.goes.stands;
          passed = omega arith;
          shallow = rw deep pr.shallow.1;
          plain = pr.plain.1;
        }),
      )
