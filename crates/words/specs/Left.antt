-- What a word reader has still to hand out.
use Rattle.std.specs.Prelude.{◌≡◌, ℕ, suc, ◌-◌, ◌<◌, ◌≤◌, cond, nat_le, List, [], ◌∷◌, ◌++◌, length, take, drop, Some, None, Option}
use Rattle.std.specs.Iterator.{Count, at_most, endless}
use Rattle.grammar.specs.Refusals.{number_of}
use Rattle.grammar.specs.Meaning.{Word as Bytes}
use Rattle.rules.specs.Rules.{Rules}
use Rattle.rules.specs.Machine.{State, means}
use Rattle.reading.specs.Places.{Placed, placed_at}
use Rattle.reading.specs.Story.{Close, whole, broken, Story, before, story}
use Rattle.reading.specs.Fit.{Fit}
use Rattle.words.specs.declared.fault.ReadFault.{ReadFault}

-- A word reader, as its callers see it: its text; what is left to hand out; how often it can read on at most.
pub record Telling : Type 0 where
  pub text : List ℕ
  pub left : Story
  pub unread : ℕ

-- the words that wait: those that the last of n bytes, or the end, has ended, but for those handed out
abbrev pub waiting : Rules → ℕ → List Bytes → ℕ → List Placed
waiting r n ws handed = placed_at r.kind (n - 1) (drop handed ws)

-- what the bytes not yet taken will tell; the end is taken behind them as one more
abbrev pub rest : Rules → List ℕ → ℕ → State → Story
rest r text n s = cond (nat_le n (length text)) (story r.kind (means r s) n (drop n text)) (record { told = []; close = whole })

-- behind the words that wait; or the refusal that ended the reading
abbrev pub left_by : Rules → Option ReadFault → List ℕ → ℕ → State → List Placed → Story
left_by r None text n s ws = before ws (rest r text n s)
left_by r (Some f) text n s ws = record { told = []; close = broken (number_of f.refusal) f.place }

abbrev pub unread_by : Option ReadFault → List ℕ → ℕ → ℕ
unread_by None text n = suc (length text) - n
unread_by (Some f) text n = 0

-- the word under way is the last of the bytes read
abbrev pub LastBytes : Bytes → List ℕ → Type 0
LastBytes w bytes = (front : List ℕ) × (bytes ≡ front ++ w)

-- each word has bytes, and is the part of the text at its place
abbrev pub AllGood : List ℕ → List Placed → Type 0
AllGood text [] = Unit {0}
AllGood text (x ∷ xs) = (0 < length x.word) × (take (length x.word) (drop x.place text) ≡ x.word) × AllGood text xs

-- What every word reader keeps: before the end its reader's state is one that bytes lead to, and the word under way is the
-- last of the bytes taken; the words that wait are parts of the text.
abbrev pub SoundBy : Rules → Option ReadFault → List ℕ → ℕ → State → List Placed → Type 0
SoundBy r None text n s ws = (n ≤ length text → Fit r s × LastBytes s.word (take n text)) × AllGood text ws
SoundBy r (Some f) text n s ws = Unit {0}

-- how many items are left: the words of a document; of a text that is refused they have no end, since the refusal is told again and again
abbrev pub items_of : Close → ℕ → Count
items_of whole n = at_most n
items_of (broken number place) n = endless

abbrev pub items_left : Story → Count
items_left s = items_of s.close (length s.told)
