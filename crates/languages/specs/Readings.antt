-- Sample records as texts: the tokens of their words, or where they are refused.
use Rattle.std.specs.Prelude.{◌≡◌, ℕ, true, List, [], ◌∷◌, pos, codes}
use Rattle.layout.specs.declared.token.Fold.TheVariants.{All}
use Rattle.layout.specs.declared.token.Anchor.TheVariants.{Indent}
use Rattle.layout.specs.Tokens.{Token, Text, Opening, Ending}
use Rattle.layout.specs.Records.{tare, split}
use Rattle.grammar.specs.Meaning.{Meaning, accepted, tokens, words}
use Rattle.rules.specs.Machine.{grammar_of}
use Rattle.reading.specs.Places.{Placed}
use Rattle.reading.specs.Story.{whole, broken, story_of}
use Rattle.json_language.specs.Rules.{json_rules}
use Rattle.sexpr_language.specs.Rules.{sexpr_rules}

-- the text is accepted, and these tokens stand for its words
pub record Read (m : Meaning) (text : List ℕ) (ts : List Token) : Type 0 where
  pub accepts : accepted m text ≡ true
  pub stands : tokens m text ≡ ts

-- a word and its place
abbrev pub word_at : ℕ → List ℕ → Placed
word_at n w = record { place = n; word = w }

-- The table: the three records; an array without items, with a blank in it; the empty documents; a second value; a text
-- with blanks around its words, and the same without.
pub record RecordsRead : Type 0 where
  pub one_line : Read (grammar_of json_rules) (codes "{\"tare\":[1,7]}") (tare (codes "1"))
  pub six_lines : Read (grammar_of json_rules) (codes "{\"tare\":[12,7]}") (tare (codes "12"))
  pub three_lines : Read (grammar_of sexpr_rules) (codes "(split (paper 40) (glass 8))") split
  pub no_items : Read (grammar_of json_rules) (codes "[ ]") (Opening (pos 2) All Indent ∷ Text (codes "[") ∷ Text (codes "]") ∷ Ending ∷ [])
  pub no_expressions : Read (grammar_of sexpr_rules) [] []
  pub no_value : story_of json_rules [] ≡ record { told = []; close = broken 6 0 }
  pub two_values : story_of json_rules (codes "1 2") ≡ record { told = word_at 0 (codes "1") ∷ []; close = broken 3 2 }
  pub with_blanks : story_of json_rules (codes " [ 1 ]") ≡ record { told = word_at 1 (codes "[") ∷ word_at 3 (codes "1") ∷ word_at 5 (codes "]") ∷ []; close = whole }
  pub same_words : words (grammar_of json_rules) (codes " [ 1 ]") ≡ words (grammar_of json_rules) (codes "[1]")
  pub wrong_bracket : story_of json_rules (codes "[1,}") ≡ record { told = word_at 0 (codes "[") ∷ word_at 1 (codes "1") ∷ word_at 2 (codes ",") ∷ []; close = broken 3 3 }
