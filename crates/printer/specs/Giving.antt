-- What a token that comes, and the end, make of a print.
use Rattle.std.specs.Prelude.{◌≡◌, ℕ, ◌+◌, ◌<◌, ◌≤◌, true, false, cond, List, [], ◌∷◌, ◌++◌, length, Ok, Err, Result, ◌==◌}
use Rattle.lines.specs.Lines.{newlines}
use Rattle.layout.specs.Tokens.{Token, Text, Break, Opening, Ending, nest}
use Rattle.layout.specs.Layout.{Pen as LayoutPen, joined}
use Rattle.layout.specs.Passing.{most_held, pass}
use Rattle.pen.specs.declared.pen.Pen.{Pen}
use Rattle.pen.specs.At.{At}
use Rattle.sink.specs.Rule.{Rule}
use Rattle.printer.specs.declared.fault.PrinterFault.{PrinterFault}
use Rattle.printer.specs.declared.fault.PrinterFault.TheVariants.{Full, Sink}
use Rattle.printer.specs.declared.printer.Printer.{Printer}
use Rattle.printer.specs.Printing.{capped, Printed, Passes}

-- room for one token more, or the refused token's number
abbrev pub Room : List Token → ℕ → Result (Unit {0}) PrinterFault → Type 0
Room h number (Ok u) = length h < most_held
Room h number (Err f) = (length h ≡ most_held) × (f ≡ Full (capped (number + most_held)))

-- what a token that comes must be: a Text of at most 255 bytes without a newline, an Opening with fewer than 64 blocks open
abbrev pub Next : ℕ → List Token → Token → Type 0
Next d h (Text bytes) = (length bytes ≤ 255) × (newlines bytes ≡ 0)
Next d h (Break blanks offset) = Unit {0}
Next d h (Opening offset fold anchor) = nest d h < 64
Next d h Ending = Unit {0}

-- A token t came behind the tokens h: all that may passed, or the sink cut that; or there was no room, and all is the Same.
abbrev pub Given : ℕ → LayoutPen → List Token → ℕ → List ℕ → Token → Rule → List ℕ → ℕ → List ℕ → Printer → Type 0 → Result (Unit {0}) PrinterFault → Type 0
Given m pen h number out t rule before older text p Same (Ok u) = (length h < most_held) × Passes false m pen (h ++ t ∷ []) number out rule before older text p (Ok u)
Given m pen h number out t rule before older text p Same (Err (Full k)) = (length h ≡ most_held) × (k ≡ capped (number + most_held)) × Same
Given m pen h number out t rule before older text p Same (Err (Sink f k)) = (length h < most_held) × Passes false m pen (h ++ t ∷ []) number out rule before older text p (Err (Sink f k))

-- the piece of the end, where there were n tokens
abbrev pub end_piece : ℕ → List (List ℕ)
end_piece n = cond (n == 0) [] ((0x0A ∷ []) ∷ [])

-- the pen stands behind the text `out`, so its counts are those of `out`
abbrev pub Counted : ℕ → List ℕ → Pen → Type 0
Counted m out p = (pen : LayoutPen) × At m pen out p

-- the end was written behind n tokens
abbrev pub Ended : ℕ → ℕ → List ℕ → Rule → List ℕ → ℕ → List ℕ → Pen → Result (Unit {0}) PrinterFault → Type 0
Ended m n out rule before older text p (Ok u) = Printed rule before older n (end_piece n) text (Ok u) × Counted m (out ++ joined (end_piece n)) p
Ended m n out rule before older text p (Err f) = Printed rule before older n (end_piece n) text (Err f)

-- the pieces of the tokens held back and of the end
abbrev pub last_pieces : ℕ → LayoutPen → List Token → ℕ → List (List ℕ)
last_pieces m pen h number = (pass true m pen h).pieces ++ end_piece (number + length h)

-- all tokens passed, and the end was written
abbrev pub Finished : ℕ → LayoutPen → List Token → ℕ → List ℕ → Rule → List ℕ → ℕ → List ℕ → Pen → Result (Unit {0}) PrinterFault → Type 0
Finished m pen h number out rule before older text p (Ok u) = Printed rule before older number (last_pieces m pen h number) text (Ok u) × Counted m (out ++ joined (last_pieces m pen h number)) p
Finished m pen h number out rule before older text p (Err f) = Printed rule before older number (last_pieces m pen h number) text (Err f)
