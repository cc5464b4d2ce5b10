-- What every state keeps that the machine reaches from the beginning of a document.
use Rattle.std.specs.Prelude.{◌≡◌, true, [], ◌∷◌, Some, None, Option}
use Rattle.grammar.specs.Meaning.{Word}
use Rattle.rules.specs.declared.word.Inside.{Inside}
use Rattle.rules.specs.Rules.{Rules, Place, admits}
use Rattle.rules.specs.Machine.{State}
use Rattle.rules.specs.Lawful.{Begun, Reached}

-- a word under way has bytes, is begun by the rules and may stand at its place; between words there is none
abbrev pub Live : Rules → Place → Inside → Word → Type 0
Live r p i [] = ⊥
Live r p i (b ∷ w) = Begun r i (b ∷ w) × (admits r p b ≡ true)

abbrev pub Sane : Rules → Place → Option Inside → Word → Type 0
Sane r p None [] = Unit {0}
Sane r p None (b ∷ w) = ⊥
Sane r p (Some i) w = Live r p i w

-- the word under way is begun by the rules and stands at a place that words reach
abbrev pub FitAt : Rules → Place → Option Inside → Word → Type 0
FitAt r p io w = Sane r p io w × Reached r p

abbrev pub Fit : Rules → State → Type 0
Fit r s = FitAt r s.place s.inside s.word
