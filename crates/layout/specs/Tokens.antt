-- What is laid out: texts, breaks between them, and blocks of these.
use Rattle.std.specs.Prelude.{ℕ, zero, suc, pred, ◌+◌, Bool, true, false, List, [], ◌∷◌, length, ℤ}
use Rattle.layout.specs.declared.token.Fold.{Fold}
use Rattle.layout.specs.declared.token.Anchor.{Anchor}

-- a Text of bytes; a Break of blanks and an offset; the Opening of a block, with its offset, fold and anchor; the Ending of the last open block
pub data Token : Type 0 where
  Text : List ℕ → Token
  Break : ℕ → ℤ → Token
  Opening : ℤ → Fold → Anchor → Token
  Ending : Token

-- the columns that a token takes on one line
abbrev pub width : Token → ℕ
width (Text bytes) = length bytes
width (Break blanks offset) = blanks
width (Opening offset fold anchor) = 0
width Ending = 0

-- the columns of all of them on one line
abbrev pub widths : List Token → ℕ
widths [] = 0
widths (t ∷ ts) = width t + widths ts

-- the blocks that a token opens
abbrev pub opens : Token → ℕ
opens (Text bytes) = 0
opens (Break blanks offset) = 0
opens (Opening offset fold anchor) = 1
opens Ending = 0

-- Of a token that is followed by `ts`, with n blocks open that were opened at it or after it: the reach is the first
-- Break at which no such block is open. Does it come among `ts`?
abbrev pub reached : ℕ → List Token → Bool
reached n [] = false
reached n (Text bytes ∷ ts) = reached n ts
reached zero (Break blanks offset ∷ ts) = true
reached (suc n) (Break blanks offset ∷ ts) = reached (suc n) ts
reached n (Opening offset fold anchor ∷ ts) = reached (suc n) ts
reached n (Ending ∷ ts) = reached (pred n) ts

-- the widths of `ts` up to that reach, or of all of them where it does not come
abbrev pub before_reach : ℕ → List Token → ℕ
before_reach n [] = 0
before_reach n (Text bytes ∷ ts) = length bytes + before_reach n ts
before_reach zero (Break blanks offset ∷ ts) = 0
before_reach (suc n) (Break blanks offset ∷ ts) = blanks + before_reach (suc n) ts
before_reach n (Opening offset fold anchor ∷ ts) = before_reach (suc n) ts
before_reach n (Ending ∷ ts) = before_reach (pred n) ts

-- the size of a token that is followed by `ts`: the widths from it up to its reach
abbrev pub size : Token → List Token → ℕ
size t ts = width t + before_reach (opens t) ts

-- an Opening or a Break waits for its reach; the others do not
abbrev pub free : Token → Bool
free (Text bytes) = true
free (Break blanks offset) = false
free (Opening offset fold anchor) = false
free Ending = true

-- the blocks open after `ts`, where n are open before
abbrev pub nest : ℕ → List Token → ℕ
nest n [] = n
nest n (Text bytes ∷ ts) = nest n ts
nest n (Break blanks offset ∷ ts) = nest n ts
nest n (Opening offset fold anchor ∷ ts) = nest (suc n) ts
nest n (Ending ∷ ts) = nest (pred n) ts
