-- What the machine accepts, limits aside, from any state on, and the words that it then ends.
use Rattle.std.specs.Prelude.{ℕ, suc, Bool, true, false, ◌&&◌, List, [], ◌∷◌, ◌++◌, Option}
use Rattle.grammar.specs.Meaning.{Word}
use Rattle.rules.specs.declared.word.Inside.{Inside}
use Rattle.rules.specs.Rules.{Rules, Place}
use Rattle.reading.specs.Places.{Placed, placed_at}
use Rattle.rules.specs.Machine.{State, Step, dead, on, step, next, pending, finished}

-- the state with this word under way, if any, at this place
abbrev pub at : Place → Option Inside → Word → State
at p io w = record { inside = io; word = w; place = p }

abbrev pub alive : Step → Bool
alive dead = false
alive (on io w ws) = true

abbrev pub step_words : Step → List Word
step_words dead = []
step_words (on io w ws) = ws

-- no byte and not the end is refused, limits aside
abbrev pub accepts : Rules → State → List ℕ → Bool
accepts r s [] = finished r s.place s.inside s.word
accepts r s (b ∷ bs) = alive (step r s b) && accepts r (next r s (step r s b)) bs

-- the words that the bytes and the end then end
abbrev pub words_from : Rules → State → List ℕ → List Word
words_from r s [] = pending s.inside s.word
words_from r s (b ∷ bs) = step_words (step r s b) ++ words_from r (next r s (step r s b)) bs

-- the same words with their places, where the first of the bytes stands at place k
abbrev pub placed_from : Rules → State → ℕ → List ℕ → List Placed
placed_from r s k [] = placed_at r.kind k (pending s.inside s.word)
placed_from r s k (b ∷ bs) = placed_at r.kind k (step_words (step r s b)) ++ placed_from r (next r s (step r s b)) (suc k) bs
