-- The machine that reads by the rules of a grammar: what it keeps between bytes, and how it answers each byte and the end.
use Rattle.std.specs.Prelude.{ℕ, Bool, true, cond, ◌&&◌, List, [], ◌∷◌, ◌++◌, length, Some, None, Option, nat_le}
use Rattle.grammar.specs.Meaning.{Word, Next, byte, end, Answer, refused, gives, Meaning}
use Rattle.grammar.specs.Laws.{most_bytes, most_open}
use Rattle.rules.specs.declared.word.Inside.{Inside}
use Rattle.rules.specs.declared.word.Begin.{Begin}
use Rattle.rules.specs.declared.word.Begin.TheVariants.{Blank, Sole, Starts, Never as NeverBegins}
use Rattle.rules.specs.declared.word.Turn.{Turn}
use Rattle.rules.specs.declared.word.Turn.TheVariants.{Stays, Closes, Never as NeverTurns}
use Rattle.rules.specs.Rules.{Rules, Place, admits, behind, behind_all, stand_for}

-- Between bytes: the word under way, if any, with its bytes so far, and the place at which it, or the next word, stands.
pub record State : Type 0 where
  pub inside : Option Inside
  pub word : Word
  pub place : Place

-- what a byte does, limits aside: no document goes on with it; or it leaves this word under way, and ends these words
pub data Step : Type 0 where
  dead : Step
  on : Option Inside → Word → List Word → Step

-- between words: a word that may not stand at its place dies at its first byte
abbrev pub begun : Bool → Begin → ℕ → Step
begun admitted Blank b = on None [] []
begun admitted Sole b = cond admitted (on None [] ((b ∷ []) ∷ [])) dead
begun admitted (Starts i) b = cond admitted (on (Some i) (b ∷ []) []) dead
begun admitted NeverBegins b = dead

abbrev pub between : Rules → Place → ℕ → Step
between r p b = begun (admits r p b) (r.begins b) b

-- a word ended before all that this step ends
abbrev pub ending : Word → Step → Step
ending w dead = dead
ending w (on i v ws) = on i v (w ∷ ws)

-- in a word: a byte that is no part of it ends it, where it is whole and may be followed by that byte
abbrev pub turned : Rules → Place → Inside → Word → ℕ → Turn → Step
turned r p i w b (Stays j) = on (Some j) (w ++ b ∷ []) []
turned r p i w b Closes = on None [] ((w ++ b ∷ []) ∷ [])
turned r p i w b NeverTurns = cond (r.whole i w && r.delimits b) (ending w (between r (behind r p w) b)) dead

abbrev pub stepped : Rules → Place → Option Inside → Word → ℕ → Step
stepped r p None w b = between r p b
stepped r p (Some i) w b = turned r p i w b (r.turns i w b)

abbrev pub step : Rules → State → ℕ → Step
step r s b = stepped r s.place s.inside s.word b

-- the state behind a byte
abbrev pub next : Rules → State → Step → State
next r s dead = s
next r s (on i w ws) = record { inside = i; word = w; place = behind_all r s.place ws }

abbrev pub run : Rules → State → List ℕ → State
run r s [] = s
run r s (b ∷ bs) = run r (next r s (step r s b)) bs

-- the limits: a word has at most 255 bytes, and at most 64 brackets are open together
abbrev pub short : Word → Bool
short w = nat_le (length w) most_bytes

abbrev pub all_short : List Word → Bool
all_short [] = true
all_short (w ∷ ws) = short w && all_short ws

abbrev pub low : Place → Bool
low p = nat_le (length p.brackets) most_open

-- behind each of these words, of which the first stands at this place
abbrev pub all_low : Rules → Place → List Word → Bool
all_low r p [] = true
all_low r p (w ∷ ws) = low (behind r p w) && all_low r (behind r p w) ws

-- the answer to a byte, in this order: 3 where no document goes on so, 4 at a word's 256th byte, 5 at a 65th open bracket
abbrev pub judged : Rules → State → Step → Answer
judged r s dead = refused 3
judged r s (on i w ws) = cond (all_short (w ∷ ws))
    (cond (all_low r s.place ws) (gives ws (stand_for r s.place ws)) (refused 5))
    (refused 4)

-- the word that the end ends
abbrev pub pending : Option Inside → Word → List Word
pending None w = []
pending (Some i) w = w ∷ []

-- no bracket is open, and the document may end here
abbrev pub no_brackets : Rules → Place → Bool
no_brackets r p = r.ends p.expects && nat_le (length p.brackets) 0

-- the document may end
abbrev pub finished : Rules → Place → Option Inside → Word → Bool
finished r p None w = no_brackets r p
finished r p (Some i) w = r.whole i w && no_brackets r (behind r p w)

abbrev pub reply : Rules → State → Next → Answer
reply r s (byte b) = judged r s (step r s b)
reply r s end = cond (finished r s.place s.inside s.word)
    (gives (pending s.inside s.word) (stand_for r s.place (pending s.inside s.word)))
    (refused 6)

-- what a state means, and the whole grammar, which is what a fresh reader means
abbrev pub means : Rules → State → Meaning
means r s = record { answer = λ bs n. reply r (run r s bs) n; depth = λ bs. length (run r s bs).place.brackets }

abbrev pub first_place : Rules → Place
first_place r = record { expects = r.start; brackets = [] }

abbrev pub fresh : Rules → State
fresh r = record { inside = None; word = []; place = first_place r }

abbrev pub grammar_of : Rules → Meaning
grammar_of r = means r (fresh r)
