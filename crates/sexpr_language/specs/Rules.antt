-- The rules of S-expressions, by the class of each byte.
use Rattle.std.specs.Prelude.{ℕ, Bool, true, false, List, [], ◌∷◌, pos, Some, None, Option}
use Rattle.layout.specs.declared.token.Fold.TheVariants.{Each}
use Rattle.layout.specs.declared.token.Anchor.TheVariants.{Column}
use Rattle.grammar.specs.Meaning.{Word}
use Rattle.rules.specs.declared.word.Kind.{Kind}
use Rattle.rules.specs.declared.word.Kind.TheVariants.{Opening, Closing, Text, Atom as AtomKind}
use Rattle.rules.specs.declared.word.Inside.{Inside}
use Rattle.rules.specs.declared.word.Inside.TheVariants.{Quoted, Number, Literal, Atom as InAtom}
use Rattle.rules.specs.declared.word.Begin.{Begin}
use Rattle.rules.specs.declared.word.Begin.TheVariants.{Blank as BlankByte, Sole, Starts, Never as NeverBegins}
use Rattle.rules.specs.declared.word.Turn.{Turn}
use Rattle.rules.specs.declared.word.Turn.TheVariants.{Stays, Closes as ClosesWord, Never as NeverTurns}
use Rattle.rules.specs.declared.place.Bracket.{Bracket}
use Rattle.rules.specs.declared.place.Bracket.TheVariants.{List as Parentheses}
use Rattle.rules.specs.declared.place.Expects.{Expects}
use Rattle.rules.specs.declared.place.Expects.TheVariants.{First, Next, Colon, Value, After}
use Rattle.rules.specs.declared.place.Move.{Move}
use Rattle.rules.specs.declared.place.Move.TheVariants.{Within, Opens, Closes}
use Rattle.layout.specs.declared.token.Break.{Break}
use Rattle.rules.specs.Rules.{Rules}
use Rattle.rules.specs.Escapes.{escape_of}
use Rattle.sexpr_language.specs.declared.class.Class.{Class}
use Rattle.sexpr_language.specs.declared.class.Class.TheVariants.{Control, Blank, Space, Quote, Open, Close, Backslash, Atom, Barred}
use Rattle.sexpr_language.specs.Classes.{class_of}

-- the kind of a word with such a first byte; only a class that begins words counts
abbrev pub class_kind : Class → Kind
class_kind Control = AtomKind
class_kind Blank = AtomKind
class_kind Space = AtomKind
class_kind Quote = Text
class_kind Open = Opening
class_kind Close = Closing
class_kind Backslash = AtomKind
class_kind Atom = AtomKind
class_kind Barred = AtomKind

-- what a byte is between words
abbrev pub class_begins : Class → Begin
class_begins Control = NeverBegins
class_begins Blank = BlankByte
class_begins Space = BlankByte
class_begins Quote = Starts (Quoted 0)
class_begins Open = Sole
class_begins Close = Sole
class_begins Backslash = Starts InAtom
class_begins Atom = Starts InAtom
class_begins Barred = NeverBegins

-- what it is in an atom
abbrev pub atom_turns : Class → Turn
atom_turns Control = NeverTurns
atom_turns Blank = NeverTurns
atom_turns Space = NeverTurns
atom_turns Quote = NeverTurns
atom_turns Open = NeverTurns
atom_turns Close = NeverTurns
atom_turns Backslash = Stays InAtom
atom_turns Atom = Stays InAtom
atom_turns Barred = NeverTurns

-- in a string, where no escape is under way
abbrev pub plain_turns : Class → Turn
plain_turns Control = NeverTurns
plain_turns Blank = NeverTurns
plain_turns Space = Stays (Quoted 0)
plain_turns Quote = ClosesWord
plain_turns Open = Stays (Quoted 0)
plain_turns Close = Stays (Quoted 0)
plain_turns Backslash = Stays (Quoted 1)
plain_turns Atom = Stays (Quoted 0)
plain_turns Barred = Stays (Quoted 0)

-- in a string, behind a backslash
abbrev pub escape_turns : Class → Turn
escape_turns Control = NeverTurns
escape_turns Blank = NeverTurns
escape_turns Space = Stays (Quoted 0)
escape_turns Quote = Stays (Quoted 0)
escape_turns Open = Stays (Quoted 0)
escape_turns Close = Stays (Quoted 0)
escape_turns Backslash = Stays (Quoted 0)
escape_turns Atom = Stays (Quoted 0)
escape_turns Barred = Stays (Quoted 0)

-- in a string, behind the bytes of the escape under way: none, or a backslash
abbrev pub string_turns : List ℕ → Class → Turn
string_turns [] c = plain_turns c
string_turns (e ∷ es) c = escape_turns c

-- in a word under way; words of other kinds are never begun
abbrev pub class_turns : Inside → Word → Class → Turn
class_turns (Quoted n) w c = string_turns (escape_of n w) c
class_turns (Number part) w c = NeverTurns
class_turns Literal w c = NeverTurns
class_turns InAtom w c = atom_turns c

-- an atom may end behind each of its bytes
abbrev pub atom_whole : Inside → Word → Bool
atom_whole (Quoted n) w = false
atom_whole (Number part) w = false
atom_whole Literal w = false
atom_whole InAtom w = true

-- blank bytes, parentheses and quotes
abbrev pub class_delimits : Class → Bool
class_delimits Control = false
class_delimits Blank = true
class_delimits Space = true
class_delimits Quote = true
class_delimits Open = true
class_delimits Close = true
class_delimits Backslash = false
class_delimits Atom = false
class_delimits Barred = false

-- a parenthesis is closed only where one is open
abbrev pub closes : Option Bracket → Option Move
closes None = None
closes (Some k) = Some Closes

-- what a word does where an expression may stand
abbrev pub class_moves : Option Bracket → Class → Option Move
class_moves k Control = None
class_moves k Blank = None
class_moves k Space = None
class_moves k Quote = Some (Within After)
class_moves k Open = Some (Opens Parentheses)
class_moves k Close = closes k
class_moves k Backslash = Some (Within After)
class_moves k Atom = Some (Within After)
class_moves k Barred = None

-- an expression may stand first, or behind another
abbrev pub place_moves : Expects → Option Bracket → Class → Option Move
place_moves First k c = class_moves k c
place_moves Next k c = None
place_moves Colon k c = None
place_moves Value k c = None
place_moves After k c = class_moves k c

-- the Break between an expression and the next
abbrev pub one_blank : Break
one_blank = record { blanks = 1; offset = pos 0 }

-- behind an expression: none before a closing parenthesis
abbrev pub class_lead : Class → Option Break
class_lead Control = Some one_blank
class_lead Blank = Some one_blank
class_lead Space = Some one_blank
class_lead Quote = Some one_blank
class_lead Open = Some one_blank
class_lead Close = None
class_lead Backslash = Some one_blank
class_lead Atom = Some one_blank
class_lead Barred = Some one_blank

-- none before the first of a list
abbrev pub place_lead : Expects → Class → Option Break
place_lead First c = None
place_lead Next c = None
place_lead Colon c = None
place_lead Value c = None
place_lead After c = class_lead c

-- a document may end where an expression may stand
abbrev pub may_end : Expects → Bool
may_end First = true
may_end Next = false
may_end Colon = false
may_end Value = false
may_end After = true

-- the rules: a block is indented by one from where its parenthesis stands and folds at each Break, and a Text is its word
abbrev pub sexpr_rules : Rules
sexpr_rules = record {
  kind = λ b. class_kind (class_of b);
  begins = λ b. class_begins (class_of b);
  turns = λ i w b. class_turns i w (class_of b);
  whole = atom_whole;
  delimits = λ b. class_delimits (class_of b);
  moves = λ e k b. place_moves e k (class_of b);
  lead = λ e b. place_lead e (class_of b);
  block = record { offset = pos 1; fold = Each; anchor = Column };
  text = λ w. w;
  start = First;
  ends = may_end;
}
