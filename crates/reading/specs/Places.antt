-- The places of words: of a text without a machine, and of the words that bytes end.
use Rattle.std.specs.Prelude.{ℕ, suc, ◌+◌, ◌-◌, Bool, cond, List, [], ◌∷◌, ◌++◌, length}
use Rattle.grammar.specs.Meaning.{Word, byte, end, Meaning, after, words_of}
use Rattle.rules.specs.declared.word.Kind.{Kind}
use Rattle.rules.specs.Rules.{loose}
use Rattle.rules.specs.Language.{Written, nothing, blank_byte, word_then}

-- a word, and the place of its first byte
pub record Placed : Type 0 where
  pub place : ℕ
  pub word : Word

-- the words of a text, each with its place, where k bytes stand before the text
abbrev pub places : {blank : ℕ → Bool} {kind : ℕ → Kind} {delimits : ℕ → Bool} {Spelled : Word → Type 0} {ws : List Word} {bs : List ℕ} → ℕ → Written blank kind delimits Spelled ws bs → List Placed
places k nothing = []
places k (blank_byte b e text) = places (suc k) text
places k (word_then w rest spelled e follows text) = record { place = k; word = w } ∷ places (k + length w) text

-- Where a word stands that the byte at place k, or the end there, has ended: a loose word ends before that byte, any other with it.
abbrev pub place_of : (ℕ → Kind) → ℕ → Word → ℕ
place_of kind k [] = k
place_of kind k (b ∷ w) = cond (loose (kind b)) (k - length (b ∷ w)) (suc k - length (b ∷ w))

abbrev pub placed_at : (ℕ → Kind) → ℕ → List Word → List Placed
placed_at kind k [] = []
placed_at kind k (w ∷ ws) = record { place = place_of kind k w; word = w } ∷ placed_at kind k ws

-- the words that bytes end, the first of which stands at place k
abbrev pub ended_at : (ℕ → Kind) → Meaning → ℕ → List ℕ → List Placed
ended_at kind m k [] = []
ended_at kind m k (b ∷ bs) = placed_at kind k (words_of (m.answer [] (byte b))) ++ ended_at kind (after m b) (suc k) bs

-- the words of a document, with their places
abbrev pub words_at : (ℕ → Kind) → Meaning → ℕ → List ℕ → List Placed
words_at kind m k bs = ended_at kind m k bs ++ placed_at kind (k + length bs) (words_of (m.answer bs end))
