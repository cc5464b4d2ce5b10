-- The free writings of tokens: each Break by free choice as its blanks, or as a newline and any number of blanks.
use Rattle.std.specs.Prelude.{ℕ, suc, List, [], ◌∷◌, ◌++◌}
use Rattle.layout.specs.Tokens.{Token, Text, Break, Opening, Ending}
use Rattle.layout.specs.Layout.{blanks, ended, joined}

-- how a Break is written
pub data Choice : Type 0 where
  as_blanks : Choice
  as_line : ℕ → Choice

-- a Break of n blanks, written by that choice
abbrev pub chosen : Choice → ℕ → List ℕ
chosen as_blanks n = blanks n
chosen (as_line k) n = 0x0A ∷ blanks k

-- a token, written by that choice
abbrev pub shown : Choice → Token → List ℕ
shown c (Text bytes) = bytes
shown c (Break n offset) = chosen c n
shown c (Opening offset fold anchor) = []
shown c Ending = []

-- tokens, each written by the choice for its number
abbrev pub shown_all : (ℕ → Choice) → List Token → List ℕ
shown_all choice [] = []
shown_all choice (t ∷ ts) = shown (choice 0) t ++ shown_all (λ k. choice (suc k)) ts

-- a free writing: the tokens so written, and a newline if there was a token
abbrev pub free_writing : (ℕ → Choice) → List Token → List ℕ
free_writing choice ts = shown_all choice ts ++ joined (ended ts)
