-- What a reader holds, in the words of the machine that reads by the rules.
use Rattle.std.specs.Prelude.{◌≡◌, ℕ, true, List, [], ◌∷◌, Some, None, Option}
use Rattle.layout.specs.Tokens.{Token}
use Rattle.grammar.specs.Meaning.{Word}
use Rattle.rules.specs.declared.word.Inside.{Inside}
use Rattle.rules.specs.declared.place.Expects.{Expects}
use Rattle.rules.specs.Rules.{Rules, Place}
use Rattle.rules.specs.Machine.{State, low}
use Rattle.reading.specs.Accepts.{at}
use Rattle.reading.specs.Fit.{Fit}
use Rattle.reader.specs.declared.over.Over.{Over}
use Rattle.reader.specs.declared.piece.Piece.{Piece}
use Rattle.reader.specs.Pieces.{piece_of, ended_by, given_by}

-- the place of the word under way, or of the next; the word under way, by the bytes collected or by one that waits
pub record Held : Type 0 where
  pub place : Place
  pub inside : Option Inside
  pub bytes : Word
  pub waiting : Option ℕ

-- the same brackets, where this may come
abbrev pub expecting : Expects → Place → Place
expecting e p = record { expects = e; brackets = p.brackets }

-- the bytes of the word under way: one that waits, or those collected
abbrev pub under_way : Option Inside → Option ℕ → Word → Word
under_way None waiting w = []
under_way (Some i) None w = w
under_way (Some i) (Some b) w = b ∷ []

abbrev pub state_of : Held → State
state_of h = record { inside = h.inside; word = under_way h.inside h.waiting h.bytes; place = h.place }

-- the byte that waits is collected
abbrev pub collected_bytes : Option ℕ → Word → Word
collected_bytes None w = w
collected_bytes (Some b) w = b ∷ []

abbrev pub settled : Held → Held
settled h = record { place = h.place; inside = h.inside; bytes = collected_bytes h.waiting h.bytes; waiting = None }

-- What every machine keeps: its state is one that bytes lead to, and not too many brackets are open.
pub record Sound (r : Rules) (s : State) : Type 0 where
  pub fit : Fit r s
  pub shallow : low s.place ≡ true

-- of a machine whose word under way is collected, and what stands around that word at its place
pub record Around (r : Rules) (h : Held) (i : Inside) (k : Piece) : Type 0 where
  pub state : state_of h ≡ at h.place (Some i) h.bytes
  pub sound : Sound r (at h.place (Some i) h.bytes)
  pub piece : piece_of r h.place h.bytes ≡ Some k

-- A reader, as its callers see it: its state; the words ended last, and the tokens that stand for them.
pub record Reading : Type 0 where
  pub state : State
  pub ended : List Word
  pub given : List Token

abbrev pub reading : Rules → Held → Over → Reading
reading r h o = record { state = state_of h; ended = ended_by o h.bytes; given = given_by r o h.bytes }

-- a reader that has ended nothing
abbrev pub at_rest : State → Reading
at_rest s = record { state = s; ended = []; given = [] }
