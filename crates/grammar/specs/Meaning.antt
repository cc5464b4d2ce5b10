-- What a grammar means, and what a reader means at each moment: what each byte to come, or the end, will be answered.
use Rattle.std.specs.Prelude.{ℕ, Bool, true, false, ◌&&◌, List, [], ◌∷◌, ◌++◌}
use Rattle.layout.specs.Tokens.{Token}

-- a word is its bytes, as read
abbrev pub Word : Type 0
Word = List ℕ

-- what comes next: a byte, or the end of the document
pub data Next : Type 0 where
  byte : ℕ → Next
  end : Next

-- How it is answered: it is refused by a number; or it gives the words that it ends, and the tokens that stand for them.
-- What is refused ends no word and gives no token.
pub data Answer : Type 0 where
  refused : ℕ → Answer
  gives : List Word → List Token → Answer

-- the answer to what comes behind these bytes; the brackets open among the words that these bytes end
pub record Meaning : Type 0 where
  pub answer : List ℕ → Next → Answer
  pub depth : List ℕ → ℕ

-- what is left of a meaning once a byte is taken
abbrev pub after : Meaning → ℕ → Meaning
after m b = record { answer = λ bs. m.answer (b ∷ bs); depth = λ bs. m.depth (b ∷ bs) }

-- and once bytes are taken
abbrev pub afters : Meaning → List ℕ → Meaning
afters m [] = m
afters m (b ∷ bs) = afters (after m b) bs

abbrev pub granted : Answer → Bool
granted (refused number) = false
granted (gives ws ts) = true

abbrev pub words_of : Answer → List Word
words_of (refused number) = []
words_of (gives ws ts) = ws

abbrev pub tokens_of : Answer → List Token
tokens_of (refused number) = []
tokens_of (gives ws ts) = ts

-- none of the bytes is refused
abbrev pub taken : Meaning → List ℕ → Bool
taken m [] = true
taken m (b ∷ bs) = granted (m.answer [] (byte b)) && taken (after m b) bs

-- A list of bytes is accepted where no byte of it and not its end is refused: so no accepted list begins with a refused
-- byte, and the end is refused exactly where the bytes taken are not accepted.
abbrev pub accepted : Meaning → List ℕ → Bool
accepted m bs = taken m bs && granted (m.answer bs end)

-- the words that the bytes end, and the tokens that they give
abbrev pub ended : Meaning → List ℕ → List Word
ended m [] = []
ended m (b ∷ bs) = words_of (m.answer [] (byte b)) ++ ended (after m b) bs

abbrev pub given : Meaning → List ℕ → List Token
given m [] = []
given m (b ∷ bs) = tokens_of (m.answer [] (byte b)) ++ given (after m b) bs

-- the words of a document, and the tokens that stand for them: those of its bytes, and those of its end
abbrev pub words : Meaning → List ℕ → List Word
words m bs = ended m bs ++ words_of (m.answer bs end)

abbrev pub tokens : Meaning → List ℕ → List Token
tokens m bs = given m bs ++ tokens_of (m.answer bs end)
