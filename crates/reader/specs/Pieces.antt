-- The tokens that stand for a word, by what stands around its Text; and the words that are over, with their tokens.
use Rattle.std.specs.Prelude.{ℕ, List, [], ◌∷◌, ◌++◌, Some, None, Option}
use Rattle.layout.specs.Tokens.{Token, Text}
use Rattle.grammar.specs.Meaning.{Word}
use Rattle.layout.specs.declared.token.Break.{Break as Lead}
use Rattle.rules.specs.declared.place.Move.{Move}
use Rattle.rules.specs.Rules.{Rules, Place, moves_at, led, opened, closed}
use Rattle.reader.specs.declared.piece.Piece.{Piece}
use Rattle.reader.specs.declared.over.Own.{Own}
use Rattle.reader.specs.declared.over.Over.{Over}

-- what stands around a word with this first byte at a place; none where it may not stand there
abbrev pub piece_for : Option Lead → Option Move → Option Piece
piece_for lead None = None
piece_for lead (Some m) = Some (record { lead = lead; step = m })

abbrev pub piece_at : Rules → Place → ℕ → Option Piece
piece_at r p b = piece_for (r.lead p.expects b) (moves_at r p b)

abbrev pub piece_of : Rules → Place → Word → Option Piece
piece_of r p [] = None
piece_of r p (b ∷ w) = piece_at r p b

-- the tokens of the word w, those behind the Break first
abbrev pub behind_break : Rules → Move → Word → List Token
behind_break r m w = opened r.block (Some m) ++ (Text (r.text w) ∷ closed (Some m))

abbrev pub piece_tokens : Rules → Piece → Word → List Token
piece_tokens r c w = led c.lead ++ behind_break r c.step w

-- the words that are over, of which the first was collected, and the tokens that stand for them
abbrev pub word_if : Option Piece → Word → List Word
word_if None w = []
word_if (Some c) w = w ∷ []

abbrev pub own_word : Option Own → List Word
own_word None = []
own_word (Some o) = (o.byte ∷ []) ∷ []

abbrev pub ended_by : Over → Word → List Word
ended_by o w = word_if o.collected w ++ own_word o.own

abbrev pub tokens_if : Rules → Option Piece → Word → List Token
tokens_if r None w = []
tokens_if r (Some c) w = piece_tokens r c w

abbrev pub own_tokens : Rules → Option Own → List Token
own_tokens r None = []
own_tokens r (Some o) = piece_tokens r o.piece (o.byte ∷ [])

abbrev pub given_by : Rules → Over → Word → List Token
given_by r o w = tokens_if r o.collected w ++ own_tokens r o.own
