-- Passing token by token: what stands after each turn.
use Rattle.std.proofs.Common.{◌≡◌, ℕ, suc, ◌+◌, ◌≤◌, Bool, true, false, List, [], ◌∷◌, ◌++◌, length, Ok, Err, refl, ap, ◌∙◌, append_assoc, arith}
use Rattle.std.proofs.Math.Nat.{add-zero}
use Rattle.std.proofs.lemmas.List.{length_push, append-nil, nil_from_length}
use Rattle.layout.specs.Tokens.{Token}
use Rattle.layout.specs.Layout.{Pen as LayoutPen, joined}
use Rattle.layout.specs.Passing.{behind, pass}
use Rattle.layout.specs.Laws.{onto}
use Rattle.layout.proofs.Passes.{joined_append, pass_on}
use Rattle.sink.specs.Rule.{Beginnings, Rule}
use Rattle.printer.specs.declared.fault.PrinterFault.{PrinterFault}
use Rattle.printer.specs.declared.printer.Printer.{Printer}
use Rattle.printer.specs.Printing.{Prints, Decided, piece, next, Advanced, Passes}
use Rattle.printer.proofs.Pieces.{cut_at}

-- after i turns: the pieces `done` are written, and the rest passes from where writing stands
pub record Sofar (over : Bool) (m : ℕ) (pen : LayoutPen) (h : List Token) (number : ℕ) (out : List ℕ) (rule : Rule) (before : List ℕ) (older i : ℕ) (p : Printer) (text : List ℕ) : Type 0 where
  pub at : LayoutPen
  pub left : List Token
  pub done : List (List ℕ)
  pub prints : Prints m at left (number + length done) (out ++ joined done) p
  pub course : pass over m pen h ≡ onto done (pass over m at left)
  pub is : text ≡ before ++ joined done
  pub fits : rule.admits (before ++ joined done) ≡ true
  pub count : i + length left ≡ length h

module _ {over : Bool} {m : ℕ} {pen : LayoutPen} {h : List Token} {number : ℕ} {out : List ℕ} {rule : Rule} {before : List ℕ} {older : ℕ} where
  pub begins : {p : Printer} → Prints m pen h number out p → rule.admits before ≡ true → Sofar over m pen h number out rule before older 0 p before
  begins pr a =
      record {
        at = pen;
        left = h;
        done = [];
        prints = rw (add-zero, append-nil) pr;
        course = refl;
        is = rw append-nil;
        fits = rw append-nil a;
        count = omega arith;
      }

  module _ {i : ℕ} {p : Printer} {text : List ℕ} (s : Sofar over m pen h number out rule before older i p text) where
    -- a decided token passes, and the rest behind it
    passes_first : (d : Decided over m s.at s.left) → pass over m pen h ≡ onto s.done (behind (piece d) (pass over m (next d) d.rest))
    passes_first d = s.course ∙ ap (onto s.done) (ap (pass over m s.at) d.is ∙ pass_on over m s.at d.first d.rest d.decides)

    -- the next piece is written
    pub goes_on : {p' : Printer} {text' : List ℕ} → Advanced over m s.at s.left (number + length s.done) (out ++ joined s.done) rule text older text' p' (Ok true) → Sofar over m pen h number out rule before older (i + 1) p' text'
    goes_on a =
        let d = a.0 in
        let w = piece d in
        let push = rw append-nil at (joined_append s.done (w ∷ [])) in
        let n : number + length (s.done ++ w ∷ []) ≡ suc (number + length s.done) = omega (arith, length_push s.done w) in
        let len : length s.left ≡ suc (length d.rest) = ap length d.is in
        record {
          at = next d;
          left = d.rest;
          done = s.done ++ w ∷ [];
          prints = rw (n, push, ← append_assoc out (joined s.done) w) a.3;
          course = cc (passes_first d, append_assoc s.done (w ∷ []) (pass over m (next d) d.rest).pieces);
          is = cc (push, append_assoc before (joined s.done) w, s.is, a.2);
          fits = cc (push, append_assoc before (joined s.done) w, s.is, a.1);
          count = omega (arith, s.count);
        }

    -- nothing more may pass
    pub stops : {p' : Printer} {text' : List ℕ} → Advanced over m s.at s.left (number + length s.done) (out ++ joined s.done) rule text older text' p' (Ok false) → Passes over m pen h number out rule before older text' p' (Ok tt)
    stops a =
        let is : pass over m pen h ≡ record { pieces = s.done; pen = s.at; held = s.left } = cc (s.course, a.0, append-nil s.done) in
        rw is ((s.fits, a.1 ∙ s.is), a.2)

    -- the sink cuts the next piece
    pub cuts : {text' : List ℕ} {f : PrinterFault} → Beginnings rule.admits → Advanced over m s.at s.left (number + length s.done) (out ++ joined s.done) rule text older text' p (Err f) → Passes over m pen h number out rule before older text' p (Err f)
    cuts {text'} beg a = rw (passes_first a.0, a.4) (cut_at rule beg before older number s.done (piece a.0) (pass over m (next a.0) a.0.rest).pieces a.1 text' s.fits (rw s.is at a.2) (rw s.is at a.3))

    -- with as many turns as tokens, none is left
    pub all_passed : length h ≤ i → Passes over m pen h number out rule before older text p (Ok tt)
    all_passed l =
        let none = nil_from_length s.left (omega (arith, s.count)) in
        stops (rw none, refl, s.prints)
