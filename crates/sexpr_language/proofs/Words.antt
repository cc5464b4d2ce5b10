-- A word under way: it is a string or an atom, as its first byte says, and it can be finished.
use Rattle.std.proofs.Common.{◌≡◌, ℕ, true, false, List, [], ◌∷◌, ◌++◌, sym, refl, ap, ◌∙◌, subst}
use Rattle.grammar.specs.Meaning.{Word}
use Rattle.rules.specs.declared.word.Kind.TheVariants.{Text, Atom as AtomKind}
use Rattle.rules.specs.declared.word.Inside.{Inside}
use Rattle.rules.specs.declared.word.Inside.TheVariants.{Quoted, Number, Literal, Atom as InAtom}
use Rattle.rules.specs.declared.word.Begin.{Begin}
use Rattle.rules.specs.declared.word.Begin.TheVariants.{Blank as BlankByte, Sole, Starts, Never as NeverBegins}
use Rattle.rules.specs.declared.word.Turn.{Turn}
use Rattle.rules.specs.declared.word.Turn.TheVariants.{Stays, Closes as ClosesWord, Never as NeverTurns}
use Rattle.rules.specs.Rules.{loose}
use Rattle.rules.specs.Language.{spelled_on}
use Rattle.rules.specs.Lawful.{Begun, first_byte, one_more}
use Rattle.sexpr_language.specs.declared.class.Class.{Class}
use Rattle.sexpr_language.specs.declared.class.Class.TheVariants.{Blank, Quote}
use Rattle.sexpr_language.specs.Classes.{class_of}
use Rattle.rules.specs.Escapes.{escape_of}
use Rattle.sexpr_language.specs.Rules.{class_kind, class_begins, atom_turns, string_turns, class_turns, class_delimits, sexpr_rules}
use Rattle.sexpr_language.proofs.Cases.{by_class, never}
use Rattle.sexpr_language.proofs.Spelling.{goes_on, no_escape}

-- a word under way, by the class of its first byte
abbrev Started : Inside → Class → Type 0
Started (Quoted n) c = class_kind c ≡ Text
Started (Number part) c = ⊥
Started Literal c = ⊥
Started InAtom c = class_kind c ≡ AtomKind

-- how it begins; a word of one byte is not loose
abbrev pub BeginsSo : Class → Begin → Type 0
BeginsSo c BlankByte = Unit {0}
BeginsSo c Sole = loose (class_kind c) ≡ false
BeginsSo c (Starts i) = Started i c
BeginsSo c NeverBegins = Unit {0}

pub begins_so : (c : Class) → BeginsSo c (class_begins c)
begins_so = by_class (λ c. BeginsSo c (class_begins c)) tt tt tt refl refl refl refl refl tt

-- it goes on as what it is, and a word with a last byte of its own is not loose
abbrev pub TurnsSo : Class → Turn → Type 0
TurnsSo c (Stays j) = Started j c
TurnsSo c ClosesWord = loose (class_kind c) ≡ false
TurnsSo c NeverTurns = Unit {0}

string_goes_on : (c : Class) → class_kind c ≡ Text → (es : List ℕ) (d : Class) → TurnsSo c (string_turns es d)
string_goes_on c s [] = by_class (λ d. TurnsSo c (string_turns [] d)) tt tt s (ap loose s) s s s s s
string_goes_on c s (e ∷ es) = by_class (λ d. TurnsSo c (string_turns (e ∷ es) d)) tt tt s s s s s s s

pub turns_so : (i : Inside) (w : Word) (c d : Class) → Started i c → TurnsSo c (class_turns i w d)
turns_so (Quoted n) w c d s = string_goes_on c s (escape_of n w) d
turns_so (Number part) w c d s = absurd s
turns_so Literal w c d s = absurd s
turns_so InAtom w c d s = by_class (λ x. TurnsSo c (atom_turns x)) tt tt tt tt tt tt s s tt d

-- so it is with every word under way
abbrev BegunSo : Inside → Word → Type 0
BegunSo i [] = ⊥
BegunSo i (b ∷ w) = Started i (class_of b)

one_more_so : (i j : Inside) (w : Word) (c : ℕ) → BegunSo i w → class_turns i w (class_of c) ≡ Stays j → BegunSo j (w ++ c ∷ [])
one_more_so i j [] c s e = absurd s
one_more_so i j (b ∷ w) c s e = subst (TurnsSo (class_of b)) e (turns_so i (b ∷ w) (class_of b) (class_of c) s)

pub begun_so : {i : Inside} {w : Word} → Begun sexpr_rules i w → BegunSo i w
begun_so (first_byte i b e) = subst (BeginsSo (class_of b)) e (begins_so (class_of b))
begun_so (one_more i j w v b x e p) = subst (BegunSo j) (sym p) (one_more_so i j w b (begun_so x) e)

-- a whole word is loose
pub whole_so : (i : Inside) (w : Word) (c : Class) → Started i c → sexpr_rules.whole i w ≡ true → loose (class_kind c) ≡ true
whole_so (Quoted n) w c s h = never h
whole_so (Number part) w c s h = absurd s
whole_so Literal w c s h = absurd s
whole_so InAtom w c s h = ap loose s

-- a byte that delimits is no part of an atom
pub delimited : (i : Inside) (w : Word) (c : Class) → sexpr_rules.whole i w ≡ true → class_delimits c ≡ true → class_turns i w c ≡ NeverTurns
delimited (Quoted n) w c h d = never h
delimited (Number part) w c h d = refl
delimited Literal w c h d = refl
delimited InAtom w c h d = by_class (λ x. class_delimits x ≡ true → atom_turns x ≡ NeverTurns) (λ _. refl) (λ _. refl) (λ _. refl) (λ _. refl) (λ _. refl) (λ _. refl) never never (λ _. refl) c d

-- no word goes on with a newline
no_newline_in_string : (es : List ℕ) → string_turns es Blank ≡ NeverTurns
no_newline_in_string [] = refl
no_newline_in_string (e ∷ es) = refl

pub no_newline_inside : (i : Inside) (w : Word) → class_turns i w Blank ≡ NeverTurns
no_newline_inside (Quoted n) w = no_newline_in_string (escape_of n w)
no_newline_inside (Number part) w = refl
no_newline_inside Literal w = refl
no_newline_inside InAtom w = refl

-- a string is finished by a quote, behind a backslash by two; an atom is whole
string_finish : (n : ℕ) (w : Word) (es : List ℕ) → escape_of n w ≡ es → (rest : List ℕ) × (spelled_on sexpr_rules (Quoted n) w rest ≡ true)
string_finish n w [] e = (0x22 ∷ [], ap (λ x. goes_on w 0x22 [] (string_turns x Quote)) e)
string_finish n w (c ∷ cs) e = (
  0x22 ∷ (0x22 ∷ []),
  ap (λ x. goes_on w 0x22 (0x22 ∷ []) (string_turns x Quote)) e
      ∙ ap (λ x. goes_on (w ++ 0x22 ∷ []) 0x22 [] (string_turns x Quote)) (no_escape (w ++ 0x22 ∷ [])),
)

pub finish : (i : Inside) (w : Word) → BegunSo i w → (rest : List ℕ) × (spelled_on sexpr_rules i w rest ≡ true)
finish i [] s = absurd s
finish (Quoted n) (b ∷ w) s = string_finish n (b ∷ w) (escape_of n (b ∷ w)) refl
finish (Number part) (b ∷ w) s = absurd s
finish Literal (b ∷ w) s = absurd s
finish InAtom (b ∷ w) s = ([], refl)
