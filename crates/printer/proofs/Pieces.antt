-- Pieces written one after another are one run: what a cut leaves, and which piece it is in.
use Rattle.std.proofs.Common.{◌≡◌, ℕ, ◌+◌, ◌-◌, ◌<◌, true, List, [], ◌∷◌, ◌++◌, length, Err, refl, append_assoc, arith}
use Rattle.std.proofs.lemmas.List.{length-append, append-nil}
use Rattle.std.proofs.lemmas.Bool.Decides.{nat_tests}
use Rattle.layout.specs.Layout.{joined}
use Rattle.layout.proofs.Passes.{joined_append}
use Rattle.sink.specs.declared.fault.SinkFault.{SinkFault}
use Rattle.sink.specs.Rule.{Beginnings, Rule, kept}
use Rattle.sink.specs.Fault.{Cut, fault_of}
use Rattle.sink.proofs.Kept.{kept_behind, kept_front, kept_over}
use Rattle.sink.proofs.Runs.{cut_front, cut_behind}
use Rattle.printer.specs.declared.fault.PrinterFault.{PrinterFault}
use Rattle.printer.specs.declared.fault.PrinterFault.TheVariants.{Sink}
use Rattle.printer.specs.Printing.{capped, piece_at, Printed}

-- a byte of the first pieces is in one of them, one behind them in one of the others
piece_front : (ps qs : List (List ℕ)) (n : ℕ) → n < length (joined ps) → piece_at n (ps ++ qs) ≡ piece_at n ps
piece_front [] qs n l = absurd (omega arith)
piece_front (p ∷ ps) qs n l = grind (arith, nat_tests, length-append p (joined ps), piece_front ps qs (n - length p))

piece_back : (ps qs : List (List ℕ)) (j n : ℕ) → n ≡ length (joined ps) + j → piece_at n (ps ++ qs) ≡ length ps + piece_at j qs
piece_back [] qs j n e = grind arith
piece_back (p ∷ ps) qs j n e = grind (arith, nat_tests, length-append p (joined ps), piece_back ps qs j (n - length p))

module _ (rule : Rule) (beg : Beginnings rule.admits) (before : List ℕ) (older number : ℕ) (ps qs : List (List ℕ)) (text : List ℕ) (f : PrinterFault) where
  -- the first pieces are cut: so are all
  pub printed_front : rule.admits before ≡ true → Printed rule before older number ps text (Err f) → Printed rule before older number (ps ++ qs) text (Err f)
  printed_front a pr =
      let both = joined_append ps qs in
      let same = kept_front rule.admits before (joined ps) (joined qs) a (kept_over rule.admits beg before (joined ps) pr.0) in
      let cut = cut_front rule beg before (joined ps) (joined qs) older (fault_of rule before (joined ps) older) a (pr.0, refl) in
      let at = piece_front ps qs _ pr.0 in
      (rw both cut.0, cc (both, same, cut.1, at, pr.1), cc (both, same, pr.2))

  -- the first pieces stand, and the others are cut behind them
  pub printed_cut : (k : ℕ) → rule.admits (before ++ joined ps) ≡ true → k ≡ number + length ps → Printed rule (before ++ joined ps) older k qs text (Err f) → Printed rule before older number (ps ++ qs) text (Err f)
  printed_cut k a n pr =
      let both = joined_append ps qs in
      let rest = kept rule.admits (before ++ joined ps) (joined qs) in
      let same = kept_behind rule.admits beg before (joined ps) (joined qs) a in
      let cut = cut_behind rule beg before (joined ps) (joined qs) older (fault_of rule (before ++ joined ps) (joined qs) older) a (pr.0, refl) in
      let at = piece_back ps qs (length rest) _ (length-append (joined ps) rest) in
      let num : k + piece_at (length rest) qs ≡ number + piece_at (length (joined ps ++ rest)) (ps ++ qs) = omega arith in
      (rw both cut.0, cc (both, same, cut.1, num, pr.1), cc (both, same, pr.2, append_assoc before (joined ps) rest))

-- the pieces ps stand, and the sink cuts w behind them
pub cut_at : (rule : Rule) → Beginnings rule.admits → (before : List ℕ) (older number : ℕ) (ps : List (List ℕ)) (w : List ℕ) (rest : List (List ℕ)) (g : SinkFault) (text : List ℕ)
    → rule.admits (before ++ joined ps) ≡ true → Cut rule (before ++ joined ps) w older g → text ≡ (before ++ joined ps) ++ kept rule.admits (before ++ joined ps) w
    → Printed rule before older number (ps ++ w ∷ rest) text (Err (Sink g (capped (number + length ps))))
cut_at rule beg before older number ps w rest g text fits cut e =
    let base = before ++ joined ps in
    let k = number + length ps in
    let z : k + piece_at (length (kept rule.admits base w)) (w ∷ []) ≡ k = grind (arith, nat_tests) in
    printed_cut rule beg before older number ps (w ∷ rest) text _ k fits refl
    (printed_front rule beg base older k (w ∷ []) rest text _ fits (rw append-nil (cut.0, cc (cut.1, z), e)))
