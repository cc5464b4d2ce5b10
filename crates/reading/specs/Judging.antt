-- What it is to read a language: which bytes and ends are refused, by which number, and what is accepted.
use Rattle.std.specs.Prelude.{◌≡◌, ℕ, suc, ◌+◌, ◌≤◌, true, false, ◌⊎◌, List, [], ◌∷◌, ◌++◌, length}
use Rattle.grammar.specs.Meaning.{Word, byte, end, refused, taken, accepted, words}
use Rattle.grammar.specs.Laws.{most_bytes}
use Rattle.rules.specs.Rules.{Rules, Place, behind}
use Rattle.rules.specs.Machine.{first_place, low, grammar_of}
use Rattle.reading.specs.Places.{Placed, places, words_at}
use Rattle.rules.specs.Language.{WrittenBy, SentenceBy, DocumentBy, within_limits}

-- no document of the language begins with these bytes
abbrev pub Hopeless : Rules → List ℕ → Type 0
Hopeless r bs = (more : List ℕ) → DocumentBy r (bs ++ more) → ⊥

-- a byte behind bytes taken is refused by 3 exactly when no document begins with the bytes up to it
abbrev pub ThreeIfHopeless : Rules → Type 0
ThreeIfHopeless r = (bs : List ℕ) (b : ℕ) → taken (grammar_of r) bs ≡ true
    → ((grammar_of r).answer bs (byte b) ≡ refused 3 → Hopeless r (bs ++ b ∷ [])) × (Hopeless r (bs ++ b ∷ []) → (grammar_of r).answer bs (byte b) ≡ refused 3)

-- the bytes are accepted and have these words exactly when they are a document of these words that keeps the limits
pub record KeptDocument (r : Rules) (ws : List Word) (bs : List ℕ) : Type 0 where
  pub written : WrittenBy r ws bs
  pub sentence : SentenceBy r ws
  pub limits : within_limits r ws ≡ true

abbrev pub AcceptsDocuments : Rules → Type 0
AcceptsDocuments r = (bs : List ℕ) (ws : List Word)
    → (accepted (grammar_of r) bs ≡ true → words (grammar_of r) bs ≡ ws → KeptDocument r ws bs)
    × (KeptDocument r ws bs → (accepted (grammar_of r) bs ≡ true) × (words (grammar_of r) bs ≡ ws))

-- the end behind bytes taken is refused by 6 exactly when they are not accepted
abbrev pub SixIfUnfinished : Rules → Type 0
SixIfUnfinished r = (bs : List ℕ) → taken (grammar_of r) bs ≡ true
    → ((grammar_of r).answer bs end ≡ refused 6 → accepted (grammar_of r) bs ≡ false) × (accepted (grammar_of r) bs ≡ false → (grammar_of r).answer bs end ≡ refused 6)

-- In a text with these words in their places, the byte at place n is the kth byte of a word.
abbrev pub ByteOfWord : ℕ → ℕ → List Placed → Type 0
ByteOfWord n k [] = ⊥
ByteOfWord n k (x ∷ xs) = ((x.place + k ≡ suc n) × (k ≤ length x.word)) ⊎ ByteOfWord n k xs

-- In every document that goes on with it, a byte behind bytes taken is refused by 4 exactly when it is a word's 256th.
abbrev pub FourIfLong : Rules → Type 0
FourIfLong r = (bs : List ℕ) (b : ℕ) (more : List ℕ) → taken (grammar_of r) bs ≡ true → (d : DocumentBy r (bs ++ b ∷ more))
    → ((grammar_of r).answer bs (byte b) ≡ refused 4 → ByteOfWord (length bs) (suc most_bytes) (places 0 d.written))
    × (ByteOfWord (length bs) (suc most_bytes) (places 0 d.written) → (grammar_of r).answer bs (byte b) ≡ refused 4)

-- In a text with these words, of which the first stands at p, the byte b at place n is a word, and behind it more than 64 brackets are open.
abbrev pub OpensTooMany : Rules → Place → ℕ → ℕ → List Placed → Type 0
OpensTooMany r p n b [] = ⊥
OpensTooMany r p n b (x ∷ xs) = ((x.place ≡ n) × (x.word ≡ b ∷ []) × (low (behind r p x.word) ≡ false)) ⊎ OpensTooMany r (behind r p x.word) n b xs

-- In every document that goes on with it, a byte behind bytes taken is refused by 5 exactly when it opens a 65th bracket.
abbrev pub FiveIfDeep : Rules → Type 0
FiveIfDeep r = (bs : List ℕ) (b : ℕ) (more : List ℕ) → taken (grammar_of r) bs ≡ true → (d : DocumentBy r (bs ++ b ∷ more))
    → ((grammar_of r).answer bs (byte b) ≡ refused 5 → OpensTooMany r (first_place r) (length bs) b (places 0 d.written))
    × (OpensTooMany r (first_place r) (length bs) b (places 0 d.written) → (grammar_of r).answer bs (byte b) ≡ refused 5)

-- the words of an accepted document stand where the text has them
abbrev pub WordsInPlace : Rules → Type 0
WordsInPlace r = (bs : List ℕ) (ws : List Word) (text : WrittenBy r ws bs) → SentenceBy r ws → accepted (grammar_of r) bs ≡ true → words_at r.kind (grammar_of r) 0 bs ≡ places 0 text
