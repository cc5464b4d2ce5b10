-- The reading of a whole text: its words in their places, and how it ends.
use Rattle.std.specs.Prelude.{◌≡◌, ℕ, suc, true, List, [], ◌∷◌, ◌++◌, length, take, drop}
use Rattle.grammar.specs.Meaning.{Word, byte, end, Answer, refused, gives, Meaning, after, taken, accepted, words}
use Rattle.rules.specs.declared.word.Kind.{Kind}
use Rattle.rules.specs.Rules.{Rules}
use Rattle.rules.specs.Machine.{grammar_of}
use Rattle.rules.specs.Language.{WrittenBy}
use Rattle.reading.specs.Places.{Placed, places, placed_at, ended_at}

-- the text is a document; or it is refused by this number at this place
pub data Close : Type 0 where
  whole : Close
  broken : ℕ → ℕ → Close

-- the words handed out, in order, and what comes behind them
pub record Story : Type 0 where
  pub told : List Placed
  pub close : Close

abbrev pub before : List Placed → Story → Story
before xs s = record { told = xs ++ s.told; close = s.close }

-- the end of a text, at place k
abbrev pub story_end : (ℕ → Kind) → ℕ → Answer → Story
story_end kind k (refused n) = record { told = []; close = broken n k }
story_end kind k (gives ws ts) = record { told = placed_at kind k ws; close = whole }

-- a byte at place k, and the story behind it
abbrev pub story_byte : (ℕ → Kind) → ℕ → Answer → Story → Story
story_byte kind k (refused n) s = record { told = []; close = broken n k }
story_byte kind k (gives ws ts) s = before (placed_at kind k ws) s

-- the bytes still to come, of which the first stands at place k
abbrev pub story : (ℕ → Kind) → Meaning → ℕ → List ℕ → Story
story kind m k [] = story_end kind k (m.answer [] end)
story kind m k (b ∷ bs) = story_byte kind k (m.answer [] (byte b)) (story kind (after m b) (suc k) bs)

-- a text by rules
abbrev pub story_of : Rules → List ℕ → Story
story_of r text = story r.kind (grammar_of r) 0 text

-- each word is the part of the text at its place
abbrev pub AllParts : List ℕ → List Placed → Type 0
AllParts text [] = Unit {0}
AllParts text (x ∷ xs) = (take (length x.word) (drop x.place text) ≡ x.word) × AllParts text xs

-- What is handed out of a text: of a document, exactly its words where they stand, and then none; of a text with a byte
-- refused, the words that the bytes before it ended, and then that refusal with its place; of a text that is not
-- finished, the words that its bytes ended, and then that refusal with the text's length. Each word is a part of the text.
pub record Tells (r : Rules) : Type 0 where
  pub document : (ws : List Word) (text : List ℕ) (wr : WrittenBy r ws text) → accepted (grammar_of r) text ≡ true → words (grammar_of r) text ≡ ws → story_of r text ≡ record { told = places 0 wr; close = whole }
  pub refusal : (bs : List ℕ) (b : ℕ) (more : List ℕ) (n : ℕ) → taken (grammar_of r) bs ≡ true → (grammar_of r).answer bs (byte b) ≡ refused n → story_of r (bs ++ b ∷ more) ≡ record { told = ended_at r.kind (grammar_of r) 0 bs; close = broken n (length bs) }
  pub unfinished : (bs : List ℕ) (n : ℕ) → taken (grammar_of r) bs ≡ true → (grammar_of r).answer bs end ≡ refused n → story_of r bs ≡ record { told = ended_at r.kind (grammar_of r) 0 bs; close = broken n (length bs) }
  pub parts : (text : List ℕ) → AllParts text (story_of r text).told
