-- Which records and places stand for the tokens that are held back.
use Rattle.std.specs.Prelude.{ℕ, suc, pred, ◌+◌, ◌%◌, ◌≤◌, Bool, cond, not, ◌||◌, List, [], ◌∷◌, ◌++◌, length, Some, None, Option}
use Rattle.layout.specs.Tokens.{Token, Text, Break, Opening, Ending, width, opens, reached, size, free}
use Rattle.layout.specs.declared.token.Token.{Token as Held}
use Rattle.layout.specs.declared.token.Token.TheVariants.{Text as TextHeld, Break as BreakHeld, Opening as OpeningHeld, Ending as EndingHeld}
use Rattle.stream.specs.declared.record.Slot.{Slot}
use Rattle.stream.specs.declared.record.Place.{Place}

-- a token without the bytes of its Text
abbrev pub shape : Token → Held ℕ
shape (Text bytes) = TextHeld (length bytes)
shape (Break blanks offset) = BreakHeld (record { blanks = blanks; offset = offset })
shape (Opening offset fold anchor) = OpeningHeld (record { offset = offset; fold = fold; anchor = anchor })
shape Ending = EndingHeld

-- does the token, followed by `ts`, wait for its reach?
abbrev pub waiting : Token → List Token → Bool
waiting t ts = not (free t || reached (opens t) ts)

-- what is known of its size; nothing is asked of a free token's
abbrev pub extent : Token → List Token → Option ℕ
extent t ts = cond (waiting t ts) None (Some (cond (free t) 0 (size t ts)))

-- the record of a token
abbrev pub slotted : Token → Option ℕ → Slot
slotted t e = record { token = shape t; size = e }

-- the records of tokens
abbrev pub recorded : List Token → List Slot
recorded [] = []
recorded (t ∷ ts) = slotted t (extent t ts) ∷ recorded ts

-- the bytes of a token's Text
abbrev pub text_of : Token → List ℕ
text_of (Text bytes) = bytes
text_of (Break blanks offset) = []
text_of (Opening offset fold anchor) = []
text_of Ending = []

-- the bytes of their Texts
abbrev pub texts : List Token → List ℕ
texts [] = []
texts (t ∷ ts) = text_of t ++ texts ts

-- the blocks open after a token, where d are open before
abbrev pub deeper : ℕ → Token → ℕ
deeper d (Text bytes) = d
deeper d (Break blanks offset) = d
deeper d (Opening offset fold anchor) = suc d
deeper d Ending = pred d

-- numbers and widths are kept modulo 2^16
abbrev pub wrapped : ℕ → ℕ
wrapped n = n % 65536

-- the place of token number k, with b columns and d open blocks before it
abbrev pub place : ℕ → ℕ → ℕ → Place
place k b d = record { serial = wrapped k; since = wrapped b; depth = d }

-- the places of the tokens that wait, where the first has number k, b columns and d open blocks before it
abbrev pub waits : ℕ → ℕ → ℕ → List Token → List Place
waits k b d [] = []
waits k b d (t ∷ ts) = cond (waiting t ts) (place k b d ∷ waits (suc k) (b + width t) (deeper d t) ts) (waits (suc k) (b + width t) (deeper d t) ts)

-- at most 64 blocks are open at any time, where d are open before
abbrev pub Shallow : ℕ → List Token → Type 0
Shallow d [] = d ≤ 64
Shallow d (t ∷ ts) = (d ≤ 64) × Shallow (deeper d t) ts
