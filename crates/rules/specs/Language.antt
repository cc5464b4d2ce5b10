-- The language of a set of rules, without a machine: bytes are words with blank bytes between, and the words may stand in that order.
use Rattle.std.specs.Prelude.{◌≡◌, ℕ, suc, pred, Bool, true, false, cond, ◌&&◌, List, [], ◌∷◌, ◌++◌, nat_le}
use Rattle.grammar.specs.Meaning.{Word}
use Rattle.grammar.specs.Laws.{most_open}
use Rattle.rules.specs.declared.word.Kind.{Kind}
use Rattle.rules.specs.declared.word.Kind.TheVariants.{Opening as OpeningKind, Closing as ClosingKind, Comma, Colon, Text as TextKind, Number, Literal, Atom}
use Rattle.rules.specs.declared.word.Inside.{Inside}
use Rattle.rules.specs.declared.word.Begin.{Begin}
use Rattle.rules.specs.declared.word.Begin.TheVariants.{Blank, Sole, Starts, Never as NeverBegins}
use Rattle.rules.specs.declared.word.Turn.{Turn}
use Rattle.rules.specs.declared.word.Turn.TheVariants.{Stays, Closes, Never as NeverTurns}
use Rattle.rules.specs.Rules.{Rules, Place, loose, admits, behind}
use Rattle.rules.specs.Machine.{all_short, all_low, no_brackets, first_place}

-- what follows a number, a literal or an atom: nothing, or a byte that delimits
abbrev pub Delimited : (ℕ → Bool) → List ℕ → Type 0
Delimited delimits [] = Unit {0}
Delimited delimits (b ∷ bs) = delimits b ≡ true

abbrev pub FollowsKind : (ℕ → Bool) → Bool → List ℕ → Type 0
FollowsKind delimits false bs = Unit {0}
FollowsKind delimits true bs = Delimited delimits bs

abbrev pub Follows : (ℕ → Kind) → (ℕ → Bool) → Word → List ℕ → Type 0
Follows kind delimits [] bs = Unit {0}
Follows kind delimits (b ∷ w) bs = FollowsKind delimits (loose (kind b)) bs

-- The bytes are these words in order, each spelled as it should be, with blank bytes between as one likes, except that
-- a number, a literal or an atom is followed by a byte that delimits it, or by nothing.
pub data Written (blank : ℕ → Bool) (kind : ℕ → Kind) (delimits : ℕ → Bool) (Spelled : Word → Type 0) : List Word → List ℕ → Type 0 where
  nothing : Written blank kind delimits Spelled [] []
  blank_byte : {ws : List Word} {bs : List ℕ} (b : ℕ) → blank b ≡ true → Written blank kind delimits Spelled ws bs → Written blank kind delimits Spelled ws (b ∷ bs)
  word_then : {ws : List Word} {bs : List ℕ} (w : Word) (rest : List ℕ) → Spelled w → bs ≡ w ++ rest → Follows kind delimits w rest → Written blank kind delimits Spelled ws rest → Written blank kind delimits Spelled (w ∷ ws) bs

-- by the rules: which bytes are blank
abbrev pub is_blank : Begin → Bool
is_blank Blank = true
is_blank Sole = false
is_blank (Starts i) = false
is_blank NeverBegins = false

abbrev pub blank_of : Rules → ℕ → Bool
blank_of r b = is_blank (r.begins b)

-- Which bytes spell a word: by its first byte it is a word of its own, or is under way; then each byte goes on with it,
-- until its last byte closes it, or it is whole.
abbrev pub none_left : List ℕ → Bool
none_left [] = true
none_left (b ∷ bs) = false

abbrev pub spelled_turn : (Inside → Bool) → Bool → Turn → Bool
spelled_turn goes_on last (Stays j) = goes_on j
spelled_turn goes_on last Closes = last
spelled_turn goes_on last NeverTurns = false

abbrev pub spelled_on : Rules → Inside → Word → List ℕ → Bool
spelled_on r i w [] = r.whole i w
spelled_on r i w (b ∷ bs) = spelled_turn (λ j. spelled_on r j (w ++ b ∷ []) bs) (none_left bs) (r.turns i w b)

abbrev pub spelled_begin : Rules → ℕ → List ℕ → Begin → Bool
spelled_begin r b bs Blank = false
spelled_begin r b bs Sole = none_left bs
spelled_begin r b bs (Starts i) = spelled_on r i (b ∷ []) bs
spelled_begin r b bs NeverBegins = false

abbrev pub spelled : Rules → Word → Bool
spelled r [] = false
spelled r (b ∷ w) = spelled_begin r b w (r.begins b)

abbrev pub SpelledBy : Rules → Word → Type 0
SpelledBy r w = spelled r w ≡ true

abbrev pub WrittenBy : Rules → List Word → List ℕ → Type 0
WrittenBy r ws bs = Written (blank_of r) r.kind r.delimits (SpelledBy r) ws bs

-- the words may stand in this order, from this place to the end of the document
abbrev pub parses : Rules → Place → List Word → Bool
parses r p [] = no_brackets r p
parses r p ([] ∷ ws) = false
parses r p ((b ∷ w) ∷ ws) = admits r p b && parses r (behind r p (b ∷ w)) ws

abbrev pub SentenceBy : Rules → List Word → Type 0
SentenceBy r ws = parses r (first_place r) ws ≡ true

-- a document of the language, limits aside
pub record DocumentBy (r : Rules) (bs : List ℕ) : Type 0 where
  pub document_words : List Word
  pub written : WrittenBy r document_words bs
  pub sentence : SentenceBy r document_words

-- the limits of a document's words: each has at most 255 bytes, and at most 64 brackets are open behind each
abbrev pub within_limits : Rules → List Word → Bool
within_limits r ws = all_short ws && all_low r (first_place r) ws

-- the same in the words of the language: the brackets open behind a word of this kind, where n were open before
abbrev pub is_opening : Kind → Bool
is_opening OpeningKind = true
is_opening ClosingKind = false
is_opening Comma = false
is_opening Colon = false
is_opening TextKind = false
is_opening Number = false
is_opening Literal = false
is_opening Atom = false

abbrev pub is_closing : Kind → Bool
is_closing OpeningKind = false
is_closing ClosingKind = true
is_closing Comma = false
is_closing Colon = false
is_closing TextKind = false
is_closing Number = false
is_closing Literal = false
is_closing Atom = false

abbrev pub open_behind : Kind → ℕ → ℕ
open_behind k n = cond (is_opening k) (suc n) (cond (is_closing k) (pred n) n)

abbrev pub open_after : (ℕ → Kind) → Word → ℕ → ℕ
open_after kind [] n = n
open_after kind (b ∷ w) n = open_behind (kind b) n

-- at most 64 are open behind each word
abbrev pub all_shallow : (ℕ → Kind) → ℕ → List Word → Bool
all_shallow kind n [] = true
all_shallow kind n (w ∷ ws) = nat_le (open_after kind w n) most_open && all_shallow kind (open_after kind w n) ws

-- each word has at most 255 bytes, and at most 64 brackets are open behind each
abbrev pub keeps_limits : (ℕ → Kind) → List Word → Bool
keeps_limits kind ws = all_short ws && all_shallow kind 0 ws
