-- What a set of rules must show, so that the machine reads its language: facts about single bytes and words.
use Rattle.std.specs.Prelude.{◌≡◌, ℕ, ◌<◌, ◌≤◌, Bool, true, false, not, ◌||◌, ◌⊎◌, List, [], ◌∷◌, ◌++◌, Some, None, Option, ◌≢◌}
use Rattle.grammar.specs.Meaning.{Word}
use Rattle.grammar.specs.Laws.{Near}
use Rattle.rules.specs.declared.word.Kind.{Kind}
use Rattle.rules.specs.declared.word.Inside.{Inside}
use Rattle.rules.specs.declared.word.Begin.TheVariants.{Blank, Sole, Starts}
use Rattle.rules.specs.declared.word.Turn.TheVariants.{Stays, Closes as ClosesWord, Never as NeverTurns}
use Rattle.rules.specs.declared.place.Bracket.{Bracket}
use Rattle.rules.specs.declared.place.Expects.{Expects}
use Rattle.rules.specs.declared.place.Move.{Move}
use Rattle.rules.specs.declared.place.Move.TheVariants.{Within, Opens, Closes}
use Rattle.layout.specs.declared.token.Break.{Break as Lead}
use Rattle.rules.specs.Rules.{Rules, Place, loose, admits, behind, moved, moves_at}
use Rattle.rules.specs.Machine.{first_place}
use Rattle.rules.specs.Language.{is_opening, is_closing, spelled, spelled_on, parses}

-- a word under way with these bytes
pub data Begun (r : Rules) : Inside → Word → Type 0 where
  first_byte : (i : Inside) (b : ℕ) → r.begins b ≡ Starts i → Begun r i (b ∷ [])
  one_more : (i j : Inside) (w v : Word) (b : ℕ) → Begun r i w → r.turns i w b ≡ Stays j → v ≡ w ++ b ∷ [] → Begun r j v

-- a place that words reach from the beginning of a document
pub data Reached (r : Rules) : Place → Type 0 where
  at_first : Reached r (first_place r)
  one_on : (p q : Place) (b : ℕ) → Reached r p → admits r p b ≡ true → q ≡ behind r p (b ∷ []) → Reached r q

abbrev pub AllSpelled : Rules → List Word → Type 0
AllSpelled r [] = Unit {0}
AllSpelled r (w ∷ ws) = (spelled r w ≡ true) × AllSpelled r ws

-- words that lead from a place to the end of a document
pub record Closing (r : Rules) (p : Place) : Type 0 where
  pub closing_words : List Word
  pub good : AllSpelled r closing_words
  pub fits : parses r p closing_words ≡ true

-- a Break with a blank, or a byte that delimits: what keeps a word from running into a number, a literal or an atom before it
abbrev pub Apart : Option Lead → Bool → Type 0
Apart None d = d ≡ true
Apart (Some l) d = (0 < l.blanks) ⊎ (d ≡ true)

-- a Break in range
abbrev pub Ranged : Option Lead → Type 0
Ranged None = Unit {0}
Ranged (Some l) = (l.blanks ≤ 8) × Near l.offset

-- what a word of this kind may do: an opening opens a bracket, a closing closes one, any other stays within
abbrev pub fits_kind : Kind → Option Move → Bool
fits_kind k None = true
fits_kind k (Some (Within e)) = not (is_opening k || is_closing k)
fits_kind k (Some (Opens b)) = is_opening k
fits_kind k (Some Closes) = is_closing k

pub record Lawful (r : Rules) : Type 0 where
  -- a blank and a newline stand between words and delimit; no word holds a newline
  pub blank_is_blank : r.begins 0x20 ≡ Blank
  pub newline_is_blank : r.begins 0x0A ≡ Blank
  pub blank_delimits : r.delimits 0x20 ≡ true
  pub newline_delimits : r.delimits 0x0A ≡ true
  pub no_newline : (i : Inside) (w : Word) → r.turns i w 0x0A ≡ NeverTurns
  -- words with a last byte of their own are not loose, the others are
  pub sole_not_loose : (b : ℕ) → r.begins b ≡ Sole → loose (r.kind b) ≡ false
  pub closed_not_loose : (i : Inside) (b c : ℕ) (w : Word) → Begun r i (b ∷ w) → r.turns i (b ∷ w) c ≡ ClosesWord → loose (r.kind b) ≡ false
  pub whole_is_loose : (i : Inside) (b : ℕ) (w : Word) → Begun r i (b ∷ w) → r.whole i (b ∷ w) ≡ true → loose (r.kind b) ≡ true
  -- a byte that delimits is no part of a whole word
  pub delimiter_ends : (i : Inside) (w : Word) (b : ℕ) → r.whole i w ≡ true → r.delimits b ≡ true → r.turns i w b ≡ NeverTurns
  -- a word under way can be finished, and a document can be finished from every place
  pub word_closing : (i : Inside) (w : Word) → Begun r i w → (rest : List ℕ) × (spelled_on r i w rest ≡ true)
  pub place_closing : (p : Place) → Reached r p → Closing r p
  -- a loose word and the word behind it stand apart, however they are written
  pub apart : (p : Place) (b c : ℕ) (m n : Move) → loose (r.kind b) ≡ true → moves_at r p b ≡ Some m → moves_at r (moved m p.brackets) c ≡ Some n → Apart (r.lead (moved m p.brackets).expects c) (r.delimits c)
  -- a word's kind shows what it does
  pub kind_shows : (e : Expects) (k : Option Bracket) (b : ℕ) → fits_kind (r.kind b) (r.moves e k b) ≡ true
  -- only a word of one byte opens or closes a bracket, and only an open one is closed
  pub started_stays : (b : ℕ) (i : Inside) (e : Expects) (k : Option Bracket) (m : Move) → r.begins b ≡ Starts i → r.moves e k b ≡ Some m → (x : Expects) × (m ≡ Within x)
  pub closes_open : (e : Expects) (b : ℕ) → r.moves e None b ≢ Some Closes
  -- Breaks and blocks are in range; a Text is its word, or a word of one byte and a blank
  pub leads_near : (e : Expects) (b : ℕ) → Ranged (r.lead e b)
  pub block_near : Near r.block.offset
  pub text_is_word : (b : ℕ) (w : Word) → (r.text (b ∷ w) ≡ b ∷ w) ⊎ ((w ≡ []) × (r.text (b ∷ w) ≡ b ∷ (0x20 ∷ [])))
