-- The rules of a grammar: how its words are spelled, where they may stand, and which tokens stand for them.
use Rattle.std.specs.Prelude.{ℕ, Bool, true, false, List, [], ◌∷◌, ◌++◌, Some, None, Option}
use Rattle.layout.specs.Tokens.{Token, Text, Break, Opening, Ending}
use Rattle.grammar.specs.Meaning.{Word}
use Rattle.rules.specs.declared.word.Kind.{Kind}
use Rattle.rules.specs.declared.word.Kind.TheVariants.{Opening as OpeningKind, Closing as ClosingKind, Comma, Colon, Text as TextKind, Number, Literal, Atom}
use Rattle.rules.specs.declared.word.Inside.{Inside}
use Rattle.rules.specs.declared.word.Begin.{Begin}
use Rattle.rules.specs.declared.word.Turn.{Turn}
use Rattle.rules.specs.declared.place.Bracket.{Bracket}
use Rattle.rules.specs.declared.place.Expects.{Expects}
use Rattle.rules.specs.declared.place.Expects.TheVariants.{First, After}
use Rattle.rules.specs.declared.place.Move.{Move}
use Rattle.rules.specs.declared.place.Move.TheVariants.{Within, Opens, Closes}
use Rattle.layout.specs.declared.token.Break.{Break as Lead}
use Rattle.layout.specs.declared.token.Opening.{Opening as BlockForm}

-- What a grammar decides.
pub record Rules : Type 0 where
  -- the kind of a word with this first byte
  pub kind : ℕ → Kind
  -- what a byte is between words
  pub begins : ℕ → Begin
  -- what a byte is behind these bytes of a word under way
  pub turns : Inside → Word → ℕ → Turn
  -- may a word under way end behind these bytes, without a last byte of its own?
  pub whole : Inside → Word → Bool
  -- may this byte follow such a word?
  pub delimits : ℕ → Bool
  -- what a word with this first byte does at a place with this innermost bracket; none where it may not stand there
  pub moves : Expects → Option Bracket → ℕ → Option Move
  -- the Break before a word with this first byte, if any
  pub lead : Expects → ℕ → Option Lead
  -- the block of a bracket
  pub block : BlockForm
  -- the bytes of a word's Text
  pub text : Word → List ℕ
  -- what a document begins with
  pub start : Expects
  -- may a document end here, where no bracket is open?
  pub ends : Expects → Bool

-- a number, a literal or an atom has no last byte of its own: it ends before the next byte that is no part of it
abbrev pub loose : Kind → Bool
loose OpeningKind = false
loose ClosingKind = false
loose Comma = false
loose Colon = false
loose TextKind = false
loose Number = true
loose Literal = true
loose Atom = true

-- where the next word would stand: what may come, and the open brackets, the innermost first
pub record Place : Type 0 where
  pub expects : Expects
  pub brackets : List Bracket

abbrev pub innermost : List Bracket → Option Bracket
innermost [] = None
innermost (k ∷ ks) = Some k

abbrev pub without_innermost : List Bracket → List Bracket
without_innermost [] = []
without_innermost (k ∷ ks) = ks

-- the place behind a word that does this
abbrev pub moved : Move → List Bracket → Place
moved (Within e) ks = record { expects = e; brackets = ks }
moved (Opens k) ks = record { expects = First; brackets = k ∷ ks }
moved Closes ks = record { expects = After; brackets = without_innermost ks }

-- what a word with this first byte does at a place
abbrev pub moves_at : Rules → Place → ℕ → Option Move
moves_at r p b = r.moves p.expects (innermost p.brackets) b

-- may it stand there?
abbrev pub is_some : {X : Type 0} → Option X → Bool
is_some None = false
is_some (Some x) = true

abbrev pub admits : Rules → Place → ℕ → Bool
admits r p b = is_some (moves_at r p b)

-- the place behind a word; one that may not stand there leaves it as it is
abbrev pub placed : Option Move → Place → Place
placed None p = p
placed (Some m) p = moved m p.brackets

abbrev pub behind : Rules → Place → Word → Place
behind r p [] = p
behind r p (b ∷ w) = placed (moves_at r p b) p

-- the place behind these words
abbrev pub behind_all : Rules → Place → List Word → Place
behind_all r p [] = p
behind_all r p (w ∷ ws) = behind_all r (behind r p w) ws

-- the tokens in front of a word's Text and behind it
abbrev pub led : Option Lead → List Token
led None = []
led (Some l) = Break l.blanks l.offset ∷ []

abbrev pub opened : BlockForm → Option Move → List Token
opened f None = []
opened f (Some (Within e)) = []
opened f (Some (Opens k)) = Opening f.offset f.fold f.anchor ∷ []
opened f (Some Closes) = []

abbrev pub closed : Option Move → List Token
closed None = []
closed (Some (Within e)) = []
closed (Some (Opens k)) = []
closed (Some Closes) = Ending ∷ []

-- the tokens that stand for a word at a place: a Break before it, an Opening if it opens a bracket, its Text, an Ending if it closes one
abbrev pub word_tokens : Rules → Place → Word → List Token
word_tokens r p [] = []
word_tokens r p (b ∷ w) = led (r.lead p.expects b) ++ (opened r.block (moves_at r p b) ++ (Text (r.text (b ∷ w)) ∷ closed (moves_at r p b)))

-- the tokens that stand for words, of which the first stands at this place
abbrev pub stand_for : Rules → Place → List Word → List Token
stand_for r p [] = []
stand_for r p (w ∷ ws) = word_tokens r p w ++ stand_for r (behind r p w) ws
