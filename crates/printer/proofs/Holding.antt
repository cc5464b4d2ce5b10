-- A token is held back behind the others.
use Rattle.std.proofs.Common.{◌≡◌, ℕ, ◌≤◌, List, [], ◌∷◌, ◌++◌, length, arith}
use Rattle.std.proofs.lemmas.List.{length-append}
use Rattle.lines.specs.Lines.{newlines}
use Rattle.layout.specs.Tokens.{Token, widths}
use Rattle.layout.specs.Layout.{Pen as LayoutPen}
use Rattle.stream.specs.Recorded.{text_of, texts, deeper, Shallow}
use Rattle.stream.proofs.Settles.{nest_deeper}
use Rattle.scan.specs.Holding.{Holds}
use Rattle.scan.specs.declared.scan.Scan.{Scan}
use Rattle.printer.specs.declared.printer.Printer.{Printer}
use Rattle.printer.specs.Printing.{Plain, Prints}
use Rattle.printer.specs.Giving.{Next}

-- the bytes that wait are no more than the columns
pub texts_narrow : (h : List Token) → length (texts h) ≤ widths h
texts_narrow [] = omega arith
texts_narrow (t ∷ ts) = grind (arith, texts_narrow ts, length-append (text_of t) (texts ts))

shallow_push : (d : ℕ) (h : List Token) (t : Token) → Shallow d h → Next d h t → Shallow d (h ++ t ∷ [])
shallow_push d [] t s n = (s, grind arith)
shallow_push d (x ∷ xs) t s n = (s.0, shallow_push (deeper d x) xs t s.1 (grind (arith, nest_deeper d x xs)))

plain_push : (h : List Token) (t : Token) → Plain h → newlines (text_of t) ≡ 0 → Plain (h ++ t ∷ [])
plain_push [] t p n = (n, tt)
plain_push (x ∷ xs) t p n = (p.0, plain_push xs t p.1 n)

pub held_more : {m : ℕ} {pen : LayoutPen} {h : List Token} {number : ℕ} {out : List ℕ} {p : Printer} (t : Token) (s : Scan) → Prints m pen h number out p → Next (length pen.blocks) h t → Holds number (length pen.blocks) (h ++ t ∷ []) s → Prints m pen (h ++ t ∷ []) number out (record p { scan = s })
held_more {pen} {h} t s pr n holds =
    record {
      scan = holds;
      stands = pr.stands;
      passed = pr.passed;
      shallow = shallow_push (length pen.blocks) h t pr.shallow n;
      plain = plain_push h t pr.plain (grind arith);
    }
