-- The drain of a job.
use Rattle.std.proofs.Common.{◌≡◌, ℕ, ◌-◌, ◌^◌, ◌<◌, true, false, List, [], ◌++◌, length, Ok, Err, Result, ap, ◌∙◌, append_assoc, arith}
use Rattle.std.proofs.lemmas.List.{append-nil, length-append}
use Rattle.std.proofs.lemmas.Bool.Decides.{nat_tests}
use Rattle.lines.proofs.Joins.{newlines_most}
use Rattle.layout.specs.Tokens.{Token}
use Rattle.layout.specs.Layout.{start, ended, joined, layout}
use Rattle.layout.specs.Passing.{pass, so_far, written, held_back}
use Rattle.layout.proofs.Passes.{joined_append, pass_all, pieces_join}
use Rattle.sink.proofs.Kept.{kept_all, kept_over}
use Rattle.pen.specs.declared.pen.Pen.{Pen}
use Rattle.printer.specs.declared.fault.PrinterFault.{PrinterFault}
use Rattle.printer.specs.Giving.{end_piece, last_pieces, Finished}
use Rattle.printer.proofs.Pieces.{printed_cut}
use Rattle.direct.specs.declared.fault.DirectFault.TheVariants.{Printing}
use Rattle.direct.specs.Calls.{opened}
use Rattle.direct.specs.Course.{Start, going, print_pieces}
use Rattle.direct.specs.Standing.{Seen, Opened, Goes, Closed}
use Rattle.direct.proofs.Passings.{pass_count}

end_as : (ts : List Token) (n : ℕ) → n ≡ length ts → end_piece n ≡ ended ts
end_as ts n e = grind (arith, nat_tests)

-- the last pieces of a print
abbrev last : Start → List Token → List (List ℕ)
last s ts = last_pieces s.margin (so_far s.margin ts).pen (held_back s.margin ts) (length (so_far s.margin ts).pieces)

-- the print's pieces are those written so far, and then the last ones
print_join : (s : Start) (ts : List Token) → print_pieces s.margin ts ≡ (so_far s.margin ts).pieces ++ last s ts
print_join s ts =
    let m = s.margin in
    let p = so_far m ts in
    cc (simp append-nil at (pieces_join m start ts []), (pass_all m p.pen p.held).0, append_assoc p.pieces (pass true m p.pen p.held).pieces (ended ts), end_as ts _ (pass_count false m start ts))

-- so is its text
print_text : (s : Start) (ts : List Token) → layout s.margin ts ≡ written s.margin ts ++ joined (last s ts)
print_text s ts = ap joined (print_join s ts) ∙ joined_append (so_far s.margin ts).pieces _

-- what the printer's end came to
abbrev Last : Start → List Token → Seen → List ℕ → Pen → Result (Unit {0}) PrinterFault → Type 0
Last s ts v text pen r = Finished s.margin (so_far s.margin ts).pen (held_back s.margin ts) (length (so_far s.margin ts).pieces) (written s.margin ts) v.rule v.text v.printer.older text pen r

module _ (s : Start) (ts : List Token) (v : Seen) (text : List ℕ) (pen : Pen) (o : Opened s v) (g : Goes s ts v) (z : length (opened ts) ≡ 0) where
  -- the print is whole
  pub drain_whole : (bytes : ℕ) → Last s ts v text pen (Ok tt) → length text < 2 ^ 64 → bytes ≡ length text - length s.older
      → Closed s (going ts) text (Ok (record { bytes = bytes; newlines = pen.newlines; widest = pen.widest }))
  drain_whole bytes f small b =
      let P = layout s.margin ts in
      let fin = rw (o.rule, g.text, append_assoc, ← print_text s ts) at f in
      (grind (arith, nat_tests, newlines_most P, length-append s.older P, fin.1.1), grind (arith, nat_tests, kept_all s.rule.admits o.beginnings s.older P fin.0.0))

  -- the sink cuts the print
  pub drain_cut : (f : PrinterFault) → v.rule.admits v.text ≡ true → Last s ts v text pen (Err f) → Closed s (going ts) text (Err (Printing f))
  drain_cut f fits l =
      let here = printed_cut s.rule o.beginnings s.older (length s.older) 0 (so_far s.margin ts).pieces (last s ts) text f _ (rw (o.rule, g.text) at fits) (omega arith) (rw (o.rule, g.text, o.older) at l) in
      let pr = rw (← print_join s ts) at here in
      let over = kept_over s.rule.admits o.beginnings s.older (layout s.margin ts) pr.0 in
      (grind (arith, nat_tests), grind (arith, nat_tests))
