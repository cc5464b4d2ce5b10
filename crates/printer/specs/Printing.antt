-- Where a printer stands, and what a call of it leaves.
use Rattle.std.specs.Prelude.{◌≡◌, ℕ, suc, ◌+◌, ◌-◌, ◌^◌, ◌<◌, min, Bool, true, false, cond, List, [], ◌∷◌, ◌++◌, length, IfOk, Some, None, Ok, Err, Option, Result, nat_lt}
use Rattle.lines.specs.Lines.{newlines}
use Rattle.layout.specs.Tokens.{Token}
use Rattle.layout.specs.Layout.{Pen as LayoutPen, writes, after, fits, joined}
use Rattle.layout.specs.Passing.{decided, pass}
use Rattle.layout.specs.declared.token.Token.{Token as Held}
use Rattle.stream.specs.Recorded.{shape, text_of, Shallow}
use Rattle.scan.specs.Holding.{Holds}
use Rattle.pen.specs.At.{At}
use Rattle.sink.specs.declared.fault.SinkFault.{SinkFault}
use Rattle.sink.specs.Rule.{Rule, kept}
use Rattle.sink.specs.Fault.{Cut, fault_of}
use Rattle.printer.specs.declared.fault.PrinterFault.{PrinterFault}
use Rattle.printer.specs.declared.fault.PrinterFault.TheVariants.{Sink}
use Rattle.printer.specs.Writing.{Wrote}
use Rattle.printer.specs.declared.printer.Printer.{Printer}

-- token numbers stop at 2^64 - 1
abbrev pub capped : ℕ → ℕ
capped n = min n (2 ^ 64 - 1)

-- no Text has a newline
abbrev pub Plain : List Token → Type 0
Plain [] = Unit {0}
Plain (t ∷ ts) = (newlines (text_of t) ≡ 0) × Plain ts

-- The printer holds the tokens `held` back, of which the first has this number; writing stands at `pen`, and `out` is
-- what it has written.
pub record Prints (m : ℕ) (pen : LayoutPen) (held : List Token) (number : ℕ) (out : List ℕ) (p : Printer) : Type 0 where
  pub scan : Holds number (length pen.blocks) held p.scan
  pub stands : At m pen out p.pen
  pub passed : p.passed ≡ capped number
  pub shallow : Shallow (length pen.blocks) held
  pub plain : Plain held

-- Whether the first of the tokens passes: it waits, or it passes with an answer to whether it fits, by which it writes
-- and moves on as the layout has it.
abbrev pub Turned : Bool → ℕ → LayoutPen → List Token → Option (Held ℕ × Bool) → Type 0
Turned over m pen [] None = Unit {0}
Turned over m pen [] (Some (s, f)) = ⊥
Turned over m pen (t ∷ ts) None = decided over m pen t ts ≡ false
Turned over m pen (t ∷ ts) (Some (s, f)) = (decided over m pen t ts ≡ true) × (s ≡ shape t) × (writes m pen t f ≡ writes m pen t (fits m pen t ts)) × (after m pen t f ≡ after m pen t (fits m pen t ts))

-- the printer has written a token's piece: the pen has moved on, and all else is as it was
pub record Moved (m : ℕ) (pen : LayoutPen) (out : List ℕ) (p p' : Printer) : Type 0 where
  pub stands : At m pen out p'.pen
  pub scan : p'.scan ≡ p.scan
  pub passed : p'.passed ≡ p.passed
  pub older : p'.older ≡ p.older

-- a run was written, and where all of it was, Then holds
pub record Stepped (rule : Rule) (before bytes : List ℕ) (older : ℕ) (text : List ℕ) (Then : Type 0) (r : Result (Unit {0}) SinkFault) : Type 0 where
  pub wrote : Wrote rule before bytes older text r
  pub goes : IfOk r (λ _. Then)

-- the first of some tokens, where it is decided
pub record Decided (over : Bool) (m : ℕ) (pen : LayoutPen) (h : List Token) : Type 0 where
  pub first : Token
  pub rest : List Token
  pub is : h ≡ first ∷ rest
  pub decides : decided over m pen first rest ≡ true

-- what it writes, and where writing stands after it
abbrev pub piece : {over : Bool} {m : ℕ} {pen : LayoutPen} {h : List Token} → Decided over m pen h → List ℕ
piece {over} {m} {pen} {h} d = writes m pen d.first (fits m pen d.first d.rest)

abbrev pub next : {over : Bool} {m : ℕ} {pen : LayoutPen} {h : List Token} → Decided over m pen h → LayoutPen
next {over} {m} {pen} {h} d = after m pen d.first (fits m pen d.first d.rest)

-- one token passes; or none may; or the sink cuts it
abbrev pub Advanced : Bool → ℕ → LayoutPen → List Token → ℕ → List ℕ → Rule → List ℕ → ℕ → List ℕ → Printer → Result Bool PrinterFault → Type 0
Advanced over m pen h number out rule before older text p (Ok true) = (d : Decided over m pen h) × (rule.admits (before ++ piece d) ≡ true) × (text ≡ before ++ piece d) × Prints m (next d) d.rest (suc number) (out ++ piece d) p
Advanced over m pen h number out rule before older text p (Ok false) = (pass over m pen h ≡ record { pieces = []; pen = pen; held = h }) × (text ≡ before) × Prints m pen h number out p
Advanced over m pen h number out rule before older text p (Err f) = (d : Decided over m pen h) × (g : SinkFault) × Cut rule before (piece d) older g × (text ≡ before ++ kept rule.admits before (piece d)) × (f ≡ Sink g (capped number))

-- the number, among these pieces, of the one that byte n of their text is in
abbrev pub piece_at : ℕ → List (List ℕ) → ℕ
piece_at n [] = 0
piece_at n (p ∷ ps) = cond (nat_lt n (length p)) 0 (suc (piece_at (n - length p) ps))

-- the fault of a print that the sink cuts: the sink's fault, and the number of the token not wholly written, where the first piece is that of token `number`
abbrev pub cut_fault : Rule → List ℕ → ℕ → ℕ → List (List ℕ) → PrinterFault
cut_fault rule before older number pieces = Sink (fault_of rule before (joined pieces) older) (capped (number + piece_at (length (kept rule.admits before (joined pieces))) pieces))

-- Pieces were written behind a text: all of them, or what the rule keeps of them, with the fault.
abbrev pub Printed : Rule → List ℕ → ℕ → ℕ → List (List ℕ) → List ℕ → Result (Unit {0}) PrinterFault → Type 0
Printed rule before older number pieces text (Ok _) = (rule.admits (before ++ joined pieces) ≡ true) × (text ≡ before ++ joined pieces)
Printed rule before older number pieces text (Err f) = (length (kept rule.admits before (joined pieces)) < length (joined pieces)) × (f ≡ cut_fault rule before older number pieces) × (text ≡ before ++ kept rule.admits before (joined pieces))

-- All tokens pass that may: their pieces are written, and the printer holds the others back; or the sink cuts the pieces.
abbrev pub Passes : Bool → ℕ → LayoutPen → List Token → ℕ → List ℕ → Rule → List ℕ → ℕ → List ℕ → Printer → Result (Unit {0}) PrinterFault → Type 0
Passes over m pen h number out rule before older text p (Ok u) = Printed rule before older number (pass over m pen h).pieces text (Ok u) × Prints m (pass over m pen h).pen (pass over m pen h).held (number + length (pass over m pen h).pieces) (out ++ joined (pass over m pen h).pieces) p
Passes over m pen h number out rule before older text p (Err f) = Printed rule before older number (pass over m pen h).pieces text (Err f)
