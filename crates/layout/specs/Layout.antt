-- The layout of a list of tokens at a margin, with everything known.
use Rattle.std.specs.Prelude.{ℕ, ◌+◌, Bool, true, false, cond, List, [], ◌∷◌, ◌++◌, length, replicate, ℤ, Some, None, Option, nat_le}
use Rattle.layout.specs.declared.token.Fold.{Fold}
use Rattle.layout.specs.declared.token.Fold.TheVariants.{All, Each}
use Rattle.layout.specs.declared.token.Anchor.{Anchor}
use Rattle.layout.specs.declared.token.Anchor.TheVariants.{Column, Indent}
use Rattle.layout.specs.declared.token.Block.{Block}
use Rattle.layout.specs.Margins.{indented}
use Rattle.layout.specs.Tokens.{Token, Text, Break, Opening, Ending, size}

-- where writing stands: the column, and the open blocks, the innermost first
pub record Pen : Type 0 where
  pub column : ℕ
  pub blocks : List Block

-- at the start: column 0, in an outermost block with fold all and indentation 0
abbrev pub start : Pen
start = record { column = 0; blocks = [] }

-- the innermost open block
abbrev pub innermost : List Block → Block
innermost [] = record { fold = Some All; indent = 0 }
innermost (b ∷ bs) = b

-- the blocks without the innermost
abbrev pub enclosing : List Block → List Block
enclosing [] = []
enclosing (b ∷ bs) = bs

-- a block that fits lies flat, any other has its own fold
abbrev pub fold_of : Bool → Fold → Option Fold
fold_of true fold = None
fold_of false fold = Some fold

-- the base of a new block's indentation
abbrev pub base_of : Pen → Anchor → ℕ
base_of pen Column = pen.column
base_of pen Indent = (innermost pen.blocks).indent

-- is a Break in such a block written as blanks? In an each block it is where it fits
abbrev pub stays : Option Fold → Bool → Bool
stays None fits = true
stays (Some All) fits = false
stays (Some Each) fits = fits

-- n written blanks
abbrev pub blanks : ℕ → List ℕ
blanks n = replicate n 0x20

-- the indentation of the line that a Break with this offset begins
abbrev pub next_indent : ℕ → Pen → ℤ → ℕ
next_indent margin pen offset = indented (innermost pen.blocks).indent offset margin

-- what a token writes, and where writing stands after it, given whether the column plus its size is within the margin
abbrev pub writes : ℕ → Pen → Token → Bool → List ℕ
writes margin pen (Text bytes) fits = bytes
writes margin pen (Break n offset) fits = cond (stays (innermost pen.blocks).fold fits) (blanks n) (0x0A ∷ blanks (next_indent margin pen offset))
writes margin pen (Opening offset fold anchor) fits = []
writes margin pen Ending fits = []

abbrev pub after : ℕ → Pen → Token → Bool → Pen
after margin pen (Text bytes) fits = record { column = pen.column + length bytes; blocks = pen.blocks }
after margin pen (Break n offset) fits = record { column = cond (stays (innermost pen.blocks).fold fits) (pen.column + n) (next_indent margin pen offset); blocks = pen.blocks }
after margin pen (Opening offset fold anchor) fits = record { column = pen.column; blocks = (record { fold = fold_of fits fold; indent = indented (base_of pen anchor) offset margin }) ∷ pen.blocks }
after margin pen Ending fits = record { column = pen.column; blocks = enclosing pen.blocks }

-- does the token, followed by `ts`, fit: is its column plus its size within the margin?
abbrev pub fits : ℕ → Pen → Token → List Token → Bool
fits margin pen t ts = nat_le (pen.column + size t ts) margin

-- what each token writes, in order
abbrev pub pieces : ℕ → Pen → List Token → List (List ℕ)
pieces margin pen [] = []
pieces margin pen (t ∷ ts) = writes margin pen t (fits margin pen t ts) ∷ pieces margin (after margin pen t (fits margin pen t ts)) ts

-- the end writes a newline if there was a token
abbrev pub ended : List Token → List (List ℕ)
ended [] = []
ended (t ∷ ts) = (0x0A ∷ []) ∷ []

-- pieces of text, joined
abbrev pub joined : List (List ℕ) → List ℕ
joined [] = []
joined (p ∷ ps) = p ++ joined ps

-- the layout of tokens: all that they and their end write
abbrev pub layout : ℕ → List Token → List ℕ
layout margin ts = joined (pieces margin start ts ++ ended ts)
