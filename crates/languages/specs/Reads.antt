-- What it is for rules to read a language that is stated on its own, by the bytes that are blank, the kinds of words, the
-- bytes that delimit them, their spelling, and which words are a document.
use Rattle.std.specs.Prelude.{◌≡◌, ℕ, suc, Bool, true, false, List, ◌∷◌, ◌++◌, length}
use Rattle.grammar.specs.Meaning.{Word, byte, end, refused, taken, accepted, words}
use Rattle.grammar.specs.Laws.{Laws, most_bytes}
use Rattle.rules.specs.declared.word.Kind.{Kind}
use Rattle.rules.specs.Rules.{Rules}
use Rattle.rules.specs.Machine.{grammar_of}
use Rattle.rules.specs.Language.{Written, keeps_limits}
use Rattle.reading.specs.Places.{places}
use Rattle.reading.specs.Story.{whole, story_of}
use Rattle.reading.specs.Judging.{ByteOfWord}
use Rattle.languages.specs.Limits.{TooDeep}

pub record Reads (r : Rules) (blank : ℕ → Bool) (kind : ℕ → Kind) (delimits : ℕ → Bool) (Spelled : Word → Type 0) (Sentence : List Word → Type 0) : Type 0 where
  -- what is accepted is a document of its words that keeps the limits, and the other way round
  pub sound : (bs : List ℕ) → accepted (grammar_of r) bs ≡ true
      → Written blank kind delimits Spelled (words (grammar_of r) bs) bs × Sentence (words (grammar_of r) bs) × (keeps_limits kind (words (grammar_of r) bs) ≡ true)
  pub complete : (bs : List ℕ) (ws : List Word) → Written blank kind delimits Spelled ws bs → Sentence ws → keeps_limits kind ws ≡ true
      → (accepted (grammar_of r) bs ≡ true) × (words (grammar_of r) bs ≡ ws)
  -- behind bytes taken, a byte is refused by 3 exactly when no document begins with the bytes up to it, limits aside
  pub three : (bs : List ℕ) (b : ℕ) → taken (grammar_of r) bs ≡ true → (grammar_of r).answer bs (byte b) ≡ refused 3
      → (more : List ℕ) (ws : List Word) → Written blank kind delimits Spelled ws (bs ++ b ∷ more) → Sentence ws → ⊥
  pub three_if : (bs : List ℕ) (b : ℕ) → taken (grammar_of r) bs ≡ true
      → ((more : List ℕ) (ws : List Word) → Written blank kind delimits Spelled ws (bs ++ b ∷ more) → Sentence ws → ⊥) → (grammar_of r).answer bs (byte b) ≡ refused 3
  -- in every document that goes on so, it is refused by 4 exactly when it is a word's 256th byte
  pub four : (bs : List ℕ) (b : ℕ) (more : List ℕ) (ws : List Word) → taken (grammar_of r) bs ≡ true → (text : Written blank kind delimits Spelled ws (bs ++ b ∷ more)) → Sentence ws
      → (grammar_of r).answer bs (byte b) ≡ refused 4 → ByteOfWord (length bs) (suc most_bytes) (places 0 text)
  pub four_if : (bs : List ℕ) (b : ℕ) (more : List ℕ) (ws : List Word) → taken (grammar_of r) bs ≡ true → (text : Written blank kind delimits Spelled ws (bs ++ b ∷ more)) → Sentence ws
      → ByteOfWord (length bs) (suc most_bytes) (places 0 text) → (grammar_of r).answer bs (byte b) ≡ refused 4
  -- and by 5 exactly when it opens a 65th bracket
  pub five : (bs : List ℕ) (b : ℕ) (more : List ℕ) (ws : List Word) → taken (grammar_of r) bs ≡ true → (text : Written blank kind delimits Spelled ws (bs ++ b ∷ more)) → Sentence ws
      → (grammar_of r).answer bs (byte b) ≡ refused 5 → TooDeep kind 0 (length bs) b (places 0 text)
  pub five_if : (bs : List ℕ) (b : ℕ) (more : List ℕ) (ws : List Word) → taken (grammar_of r) bs ≡ true → (text : Written blank kind delimits Spelled ws (bs ++ b ∷ more)) → Sentence ws
      → TooDeep kind 0 (length bs) b (places 0 text) → (grammar_of r).answer bs (byte b) ≡ refused 5
  -- the end is refused by 6 exactly when the bytes taken are not accepted
  pub six : (bs : List ℕ) → taken (grammar_of r) bs ≡ true → (grammar_of r).answer bs end ≡ refused 6 → accepted (grammar_of r) bs ≡ false
  pub six_if : (bs : List ℕ) → taken (grammar_of r) bs ≡ true → accepted (grammar_of r) bs ≡ false → (grammar_of r).answer bs end ≡ refused 6
  -- a word reader hands out a document's words where they stand, and then none
  pub told : (ws : List Word) (bs : List ℕ) (text : Written blank kind delimits Spelled ws bs) → Sentence ws → keeps_limits kind ws ≡ true → story_of r bs ≡ record { told = places 0 text; close = whole }
  -- the laws of a grammar
  pub laws : Laws (grammar_of r)
