-- The language of S-expressions, without a machine: which bytes spell a word, which words are a list of expressions, and
-- which bytes are a text of such words.
use Rattle.std.specs.Prelude.{◌≡◌, ℕ, Bool, true, cond, not, ◌&&◌, ◌||◌, List, [], ◌∷◌, ◌==◌, nat_le}
use Rattle.grammar.specs.Meaning.{Word}
use Rattle.rules.specs.declared.word.Kind.{Kind}
use Rattle.rules.specs.declared.word.Kind.TheVariants.{Opening, Closing, Comma, Colon, Text, Number, Literal, Atom}
use Rattle.rules.specs.Language.{Written}

-- blank bytes, which stand between words: space, tab, newline, carriage return
abbrev pub blank : ℕ → Bool
blank b = b == 0x20 || (b == 0x09 || (b == 0x0A || b == 0x0D))

-- ( ) "
abbrev pub punctuation : ℕ → Bool
punctuation b = b == 0x28 || (b == 0x29 || b == 0x22)

-- what may stand behind an atom
abbrev pub delimits : ℕ → Bool
delimits b = blank b || punctuation b

-- a byte of an atom: 0x21 to 0xFF, but none of ( ) " and neither ; nor 0x7F
abbrev pub of_atom : ℕ → Bool
of_atom b = nat_le 0x21 b && (nat_le b 0xFF && not (punctuation b || (b == 0x3B || b == 0x7F)))

-- a byte that stands for itself in a string: from 0x20 up, but neither " nor \
abbrev pub plain : ℕ → Bool
plain b = nat_le 0x20 b && not (b == 0x22 || b == 0x5C)

-- all of the bytes are of an atom
abbrev pub AllOfAtom : List ℕ → Type 0
AllOfAtom [] = Unit {0}
AllOfAtom (b ∷ bs) = (of_atom b ≡ true) × AllOfAtom bs

-- an atom is one such byte or more
abbrev pub IsAtom : Word → Type 0
IsAtom [] = ⊥
IsAtom (b ∷ bs) = AllOfAtom (b ∷ bs)

-- What follows the opening " of a string: the closing one; a byte that stands for itself, and so on; or a \ with the next
-- byte, any from 0x20 up, and so on.
pub data InString : List ℕ → Type 0 where
  closing_quote : InString (0x22 ∷ [])
  plain_byte : (b : ℕ) (bs : List ℕ) → plain b ≡ true → InString bs → InString (b ∷ bs)
  escaped_byte : (b : ℕ) (bs : List ℕ) → nat_le 0x20 b ≡ true → InString bs → InString (0x5C ∷ (b ∷ bs))

-- the kind of a word, by its first byte: ( ) " or else that of an atom
abbrev pub kind_of : ℕ → Kind
kind_of b = cond (b == 0x28) Opening (cond (b == 0x29) Closing (cond (b == 0x22) Text Atom))

-- how a first byte and the bytes behind it spell a word of a kind: a parenthesis stands alone; the language has no other kinds than these four
abbrev pub SpelledAs : Kind → ℕ → List ℕ → Type 0
SpelledAs Opening b bs = bs ≡ []
SpelledAs Closing b bs = bs ≡ []
SpelledAs Text b bs = InString bs
SpelledAs Atom b bs = IsAtom (b ∷ bs)
SpelledAs Comma b bs = ⊥
SpelledAs Colon b bs = ⊥
SpelledAs Number b bs = ⊥
SpelledAs Literal b bs = ⊥

-- the bytes spell a word
abbrev pub Spelled : Word → Type 0
Spelled [] = ⊥
Spelled (b ∷ bs) = SpelledAs (kind_of b) b bs

-- expressions: an atom, a string, or a list of expressions
mutual
  pub data Expression : Type 0 where
    atom : Expression
    string : Expression
    list : Expressions → Expression

  pub data Expressions : Type 0 where
    none : Expressions
    more : Expression → Expressions → Expressions

-- the kinds of the words of an expression, or of a list of them, and then `ks`
abbrev mutual
  pub expr : Expression → List Kind → List Kind
  expr atom ks = Atom ∷ ks
  expr string ks = Text ∷ ks
  expr (list es) ks = Opening ∷ exprs es (Closing ∷ ks)

  pub exprs : Expressions → List Kind → List Kind
  exprs none ks = ks
  exprs (more e es) ks = expr e (exprs es ks)

-- the kinds of words; no word that is spelled is empty
abbrev pub kinds : List Word → List Kind
kinds [] = []
kinds ([] ∷ ws) = kinds ws
kinds ((b ∷ w) ∷ ws) = kind_of b ∷ kinds ws

-- the words are those of a list of expressions, which may be empty
abbrev pub Sentence : List Word → Type 0
Sentence ws = (es : Expressions) × (kinds ws ≡ exprs es [])

-- The bytes are a text of these words: they are written with blanks between as one likes, an atom is followed by a byte
-- that delimits it or by nothing, and the words are those of a list of expressions.
abbrev pub TextOf : List Word → List ℕ → Type 0
TextOf ws bs = Written blank kind_of delimits Spelled ws bs × Sentence ws

-- a document, limits aside
abbrev pub Document : List ℕ → Type 0
Document bs = (ws : List Word) × TextOf ws bs
