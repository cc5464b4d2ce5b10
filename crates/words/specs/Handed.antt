-- What is handed out: a word by its kind, a refusal, or nothing.
use Rattle.std.specs.Prelude.{◌≡◌, ℕ, List, [], ◌∷◌, ◌<◌, Some, None, Ok, Err, Option, Result}
use Rattle.std.specs.declared.ops.ControlFlow.{ControlFlow}
use Rattle.std.specs.declared.ops.ControlFlow.TheVariants.{Continue, Break}
use Rattle.grammar.specs.declared.refusal.Refusal.{Refusal}
use Rattle.grammar.specs.Refusals.{number_of}
use Rattle.grammar.specs.Meaning.{Word as Bytes}
use Rattle.rules.specs.declared.word.Kind.{Kind}
use Rattle.rules.specs.declared.word.Kind.TheVariants.{Opening, Closing, Comma, Colon, Text, Number, Literal, Atom}
use Rattle.rules.specs.Rules.{Rules}
use Rattle.rules.specs.Machine.{State}
use Rattle.reading.specs.Places.{Placed}
use Rattle.reading.specs.Story.{Story, whole, broken}
use Rattle.words.specs.declared.fault.ReadFault.{ReadFault}
use Rattle.words.specs.declared.word.Word.{Word}
use Rattle.reader.specs.State.{Reading}
use Rattle.reader.specs.Goes.{Steps, Finishes}
use Rattle.words.specs.Left.{Telling}
use Rattle.words.specs.declared.word.Word.TheVariants.{Opening as OpeningWord, Closing as ClosingWord, Comma as CommaWord, Colon as ColonWord, Text as TextWord, Number as NumberWord, Literal as LiteralWord, Atom as AtomWord}

-- the kind of each case
abbrev pub kind_of : Word → Kind
kind_of (OpeningWord part place) = Opening
kind_of (ClosingWord part place) = Closing
kind_of (CommaWord part place) = Comma
kind_of (ColonWord part place) = Colon
kind_of (TextWord part place) = Text
kind_of (NumberWord part place) = Number
kind_of (LiteralWord part place) = Literal
kind_of (AtomWord part place) = Atom

-- its bytes and its place
abbrev pub placed_of : Word → Placed
placed_of (OpeningWord part place) = record { place = place; word = part.now }
placed_of (ClosingWord part place) = record { place = place; word = part.now }
placed_of (CommaWord part place) = record { place = place; word = part.now }
placed_of (ColonWord part place) = record { place = place; word = part.now }
placed_of (TextWord part place) = record { place = place; word = part.now }
placed_of (NumberWord part place) = record { place = place; word = part.now }
placed_of (LiteralWord part place) = record { place = place; word = part.now }
placed_of (AtomWord part place) = record { place = place; word = part.now }

-- the kind of a word by the rules: it shows in the first byte
abbrev pub OfKind : Rules → Bytes → Kind → Type 0
OfKind r [] k = ⊥
OfKind r (b ∷ w) k = k ≡ r.kind b

-- What is handed out where this story was left, and what story is left then: the next word; or, where no word is left,
-- none or the refusal, and then the same again.
abbrev pub Handed : Rules → Story → Story → Option (Result Word ReadFault) → Type 0
Handed r s s' None = (s.told ≡ []) × (s.close ≡ whole) × (s' ≡ s)
Handed r s s' (Some (Err f)) = (s.told ≡ []) × (s.close ≡ broken (number_of f.refusal) f.place) × (s' ≡ s)
Handed r s s' (Some (Ok w)) = (s.told ≡ placed_of w ∷ s'.told) × (s'.close ≡ s.close) × OfKind r (placed_of w).word (kind_of w)

-- what the reader answers to the bytes still to come: to the first of them, or to the end
abbrev pub Takes : Rules → State → List ℕ → Reading → Result (Unit {0}) Refusal → Type 0
Takes r s [] v answer = Finishes r s v answer
Takes r s (b ∷ bs) v answer = Steps r s b v answer

-- A step of the reading: something is handed out, or the same story is left and less is left to read.
abbrev pub Advanced : Rules → Telling → Telling → ControlFlow (Option (Result Word ReadFault)) (Unit {0}) → Type 0
Advanced r v w (Continue done) = (w.left ≡ v.left) × (w.unread < v.unread)
Advanced r v w (Break item) = Handed r v.left w.left item
