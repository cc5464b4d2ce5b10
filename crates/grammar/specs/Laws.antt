-- The laws that every grammar shows.
use Rattle.std.specs.Prelude.{◌≡◌, ℕ, zero, suc, ◌<◌, ◌≤◌, true, List, [], ◌∷◌, ◌++◌, length, ℤ, pos, negsuc}
use Rattle.lines.specs.Lines.{newlines}
use Rattle.layout.specs.Tokens.{Token, Text, Break, Opening, Ending, nest}
use Rattle.layout.specs.Writings.{Choice, free_writing}
use Rattle.grammar.specs.Meaning.{Word, Next, Meaning, taken, accepted, given, words, tokens, tokens_of}

-- the most bytes of a word, and so of a Text; the most brackets, and so blocks, open together; the most tokens of a byte or the end
abbrev pub most_bytes : ℕ
most_bytes = 255

abbrev pub most_open : ℕ
most_open = 64

abbrev pub most_tokens : ℕ
most_tokens = 1000000

-- an offset is -16 to 16
abbrev pub Near : ℤ → Type 0
Near (pos n) = n ≤ 16
Near (negsuc n) = n < 16

-- a Text of 1 to 255 bytes without a newline, 0 to 8 blanks, an offset in range
abbrev pub Fine : Token → Type 0
Fine (Text bytes) = (0 < length bytes) × (length bytes ≤ most_bytes) × (newlines bytes ≡ 0)
Fine (Break blanks offset) = (blanks ≤ 8) × Near offset
Fine (Opening offset fold anchor) = Near offset
Fine Ending = Unit {0}

abbrev pub AllFine : List Token → Type 0
AllFine [] = Unit {0}
AllFine (t ∷ ts) = Fine t × AllFine ts

-- behind n open blocks, no Ending comes without an open block, and at most 64 are open together
abbrev pub Nested : ℕ → List Token → Type 0
Nested n [] = Unit {0}
Nested n (Text bytes ∷ ts) = Nested n ts
Nested n (Break blanks offset ∷ ts) = Nested n ts
Nested n (Opening offset fold anchor ∷ ts) = (n < most_open) × Nested (suc n) ts
Nested zero (Ending ∷ ts) = ⊥
Nested (suc n) (Ending ∷ ts) = Nested n ts

-- The bounds of everything that a reader gives, also on the way to no accepted document: of all tokens of bytes taken and
-- of what comes next, and of how many come at once.
pub record Bounded (m : Meaning) (bs : List ℕ) (next : Next) : Type 0 where
  pub fine : AllFine (given m bs ++ tokens_of (m.answer bs next))
  pub nested : Nested 0 (given m bs ++ tokens_of (m.answer bs next))
  pub few : length (tokens_of (m.answer bs next)) ≤ most_tokens

-- the text is accepted and has these words
pub record Reads (m : Meaning) (text : List ℕ) (ws : List Word) : Type 0 where
  pub accepts : accepted m text ≡ true
  pub same : words m text ≡ ws

-- A grammar's laws: each free writing of an accepted document's tokens is accepted and has the document's words; tokens
-- depend on the words alone; blocks balance; and the bounds hold.
pub record Laws (m : Meaning) : Type 0 where
  pub rereads : (bs : List ℕ) → accepted m bs ≡ true → (choice : ℕ → Choice) → Reads m (free_writing choice (tokens m bs)) (words m bs)
  pub by_words : (bs cs : List ℕ) → accepted m bs ≡ true → accepted m cs ≡ true → words m bs ≡ words m cs → tokens m bs ≡ tokens m cs
  pub balance : (bs : List ℕ) → accepted m bs ≡ true → nest 0 (tokens m bs) ≡ 0
  pub bounds : (bs : List ℕ) (next : Next) → taken m bs ≡ true → Bounded m bs next
