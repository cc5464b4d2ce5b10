-- The rules by which JSON is read.
use Rattle.std.specs.Prelude.{ℕ, Bool, true, false, cond, ◌&&◌, ◌||◌, List, [], ◌∷◌, pos, negsuc, Some, None, codes, Option, ◌==◌}
use Rattle.layout.specs.declared.token.Fold.TheVariants.{All}
use Rattle.layout.specs.declared.token.Anchor.TheVariants.{Indent}
use Rattle.grammar.specs.Meaning.{Word}
use Rattle.rules.specs.declared.word.Part.{Part}
use Rattle.rules.specs.declared.word.Part.TheVariants.{Minus, Zero, Integer, Point, Fraction, Letter, Sign, Exponent}
use Rattle.rules.specs.declared.word.Inside.{Inside}
use Rattle.rules.specs.declared.word.Inside.TheVariants.{Quoted, Number, Literal, Atom}
use Rattle.rules.specs.declared.word.Begin.{Begin}
use Rattle.rules.specs.declared.word.Begin.TheVariants.{Blank, Sole, Starts, Never as NeverBegins}
use Rattle.rules.specs.declared.word.Turn.{Turn}
use Rattle.rules.specs.declared.word.Turn.TheVariants.{Stays, Closes as ClosesWord, Never as NeverTurns}
use Rattle.rules.specs.declared.place.Bracket.{Bracket}
use Rattle.rules.specs.declared.place.Bracket.TheVariants.{Array, Object, List as ListBracket}
use Rattle.rules.specs.declared.place.Expects.{Expects}
use Rattle.rules.specs.declared.place.Expects.TheVariants.{First, Next, Colon, Value, After}
use Rattle.rules.specs.declared.place.Move.{Move}
use Rattle.rules.specs.declared.place.Move.TheVariants.{Within, Opens, Closes}
use Rattle.layout.specs.declared.token.Break.{Break}
use Rattle.rules.specs.Rules.{Rules}
use Rattle.rules.specs.Escapes.{escape_of}
use Rattle.json_language.specs.declared.class.Class.{Class}
use Rattle.json_language.specs.declared.class.Class.TheVariants.{Control, Blank as BlankByte, Space, Quote, Backslash, OpenArray, CloseArray, OpenObject, CloseObject, Comma as CommaByte, Colon as ColonByte, Minus as MinusByte, Plus as PlusByte, Point as PointByte, Zero as ZeroByte, Digit as DigitByte, Exponent as ExponentByte, Letter as LetterByte, Other}
use Rattle.json_language.specs.Classes.{class_of, is}
use Rattle.json_language.specs.Words.{Sort, begin_array, end_array, begin_object, end_object, value_separator, name_separator, string, number, literal, no_word, sort_of, kind_of, delimits, escapable, hexadecimal}

-- what a byte of this class is between words
abbrev pub begins_in : Class → Begin
begins_in Control = NeverBegins
begins_in BlankByte = Blank
begins_in Space = Blank
begins_in Quote = Starts (Quoted 0)
begins_in Backslash = NeverBegins
begins_in OpenArray = Sole
begins_in CloseArray = Sole
begins_in OpenObject = Sole
begins_in CloseObject = Sole
begins_in CommaByte = Sole
begins_in ColonByte = Sole
begins_in MinusByte = Starts (Number Minus)
begins_in PlusByte = NeverBegins
begins_in PointByte = NeverBegins
begins_in ZeroByte = Starts (Number Zero)
begins_in DigitByte = Starts (Number Integer)
begins_in ExponentByte = NeverBegins
begins_in LetterByte = Starts Literal
begins_in Other = NeverBegins

-- a digit
abbrev pub digits : Class → Bool
digits c = is ZeroByte c || is DigitByte c

-- this part where the test passes, and else another
abbrev pub to : Bool → Part → Option Part → Option Part
to test part else = cond test (Some part) else

-- In a number: the part to which a byte of this class belongs behind a byte of that part; none if it is no part of the number.
abbrev pub number_part : Part → Class → Option Part
number_part Minus c = to (is ZeroByte c) Zero (to (is DigitByte c) Integer None)
number_part Zero c = to (is PointByte c) Point (to (is ExponentByte c) Letter None)
number_part Integer c = to (digits c) Integer (to (is PointByte c) Point (to (is ExponentByte c) Letter None))
number_part Point c = to (digits c) Fraction None
number_part Fraction c = to (digits c) Fraction (to (is ExponentByte c) Letter None)
number_part Letter c = to (is MinusByte c || is PlusByte c) Sign (to (digits c) Exponent None)
number_part Sign c = to (digits c) Exponent None
number_part Exponent c = to (digits c) Exponent None

-- what such a byte is
abbrev pub number_turn : Option Part → Turn
number_turn None = NeverTurns
number_turn (Some part) = Stays (Number part)

-- may a number end behind this part?
abbrev pub number_whole : Part → Bool
number_whole Minus = false
number_whole Zero = true
number_whole Integer = true
number_whole Point = false
number_whole Fraction = true
number_whole Letter = false
number_whole Sign = false
number_whole Exponent = true

-- the second list begins the first, and the byte goes on with it
abbrev pub goes_on : List ℕ → Word → ℕ → Bool
goes_on [] w b = false
goes_on (y ∷ ys) [] b = b == y
goes_on (y ∷ ys) (x ∷ xs) b = x == y && goes_on ys xs b

-- the second list is the first
abbrev pub same : List ℕ → Word → Bool
same [] [] = true
same [] (x ∷ xs) = false
same (y ∷ ys) [] = false
same (y ∷ ys) (x ∷ xs) = x == y && same ys xs

-- In a literal: the bytes and one more begin one of the three words.
abbrev pub literal_goes_on : Word → ℕ → Bool
literal_goes_on w b = goes_on (codes "true") w b || (goes_on (codes "false") w b || goes_on (codes "null") w b)

-- the bytes are one of the three words
abbrev pub literal_whole : Word → Bool
literal_whole w = same (codes "true") w || (same (codes "false") w || same (codes "null") w)

-- In a string: what a byte of this class is where no escape is under way.
abbrev pub plain_turn : Class → Turn
plain_turn c = cond (is Quote c) ClosesWord (cond (is Backslash c) (Stays (Quoted 1)) (cond (is Control c || is BlankByte c) NeverTurns (Stays (Quoted 0))))

-- what a byte is behind a backslash
abbrev pub escape_turn : ℕ → Turn
escape_turn b = cond (b == 0x75) (Stays (Quoted 2)) (cond (escapable b) (Stays (Quoted 0)) NeverTurns)

-- what a hexadecimal digit is behind a backslash, u and these digits
abbrev pub digit_turn : List ℕ → Turn
digit_turn [] = Stays (Quoted 3)
digit_turn (h ∷ []) = Stays (Quoted 4)
digit_turn (h ∷ (i ∷ [])) = Stays (Quoted 5)
digit_turn (h ∷ (i ∷ (j ∷ []))) = Stays (Quoted 0)
digit_turn (h ∷ (i ∷ (j ∷ (k ∷ hs)))) = NeverTurns

-- what a byte is behind a backslash, u and these digits
abbrev pub unicode_turn : List ℕ → ℕ → Turn
unicode_turn hs b = cond (hexadecimal b) (digit_turn hs) NeverTurns

-- what a byte is behind a backslash and these bytes
abbrev pub backslash_turn : List ℕ → ℕ → Turn
backslash_turn [] b = escape_turn b
backslash_turn (x ∷ hs) b = cond (x == 0x75) (unicode_turn hs b) NeverTurns

-- what a byte is behind these bytes of an escape
abbrev pub string_turn : List ℕ → ℕ → Turn
string_turn [] b = plain_turn (class_of b)
string_turn (x ∷ xs) b = cond (x == 0x5C) (backslash_turn xs b) NeverTurns

-- what a byte is behind these bytes of a word under way
abbrev pub json_turns : Inside → Word → ℕ → Turn
json_turns (Quoted n) w b = string_turn (escape_of n w) b
json_turns (Number part) w b = number_turn (number_part part (class_of b))
json_turns Literal w b = cond (literal_goes_on w b) (Stays Literal) NeverTurns
json_turns Atom w b = NeverTurns

-- may the word end there, without a last byte of its own?
abbrev pub json_whole : Inside → Word → Bool
json_whole (Quoted n) w = false
json_whole (Number part) w = number_whole part
json_whole Literal w = literal_whole w
json_whole Atom w = false

-- inside an array
abbrev pub in_array : Option Bracket → Move → Option Move
in_array None m = None
in_array (Some Array) m = Some m
in_array (Some Object) m = None
in_array (Some ListBracket) m = None

-- A value may stand where a value must come, and in an array where nothing or a comma stands before.
abbrev pub as_value : Expects → Option Bracket → Move → Option Move
as_value First k m = in_array k m
as_value Next k m = in_array k m
as_value Colon k m = None
as_value Value k m = Some m
as_value After k m = None

-- a string is an item of an array, or a name in an object
abbrev pub item_or_name : Option Bracket → Option Move
item_or_name None = None
item_or_name (Some Array) = Some (Within After)
item_or_name (Some Object) = Some (Within Colon)
item_or_name (Some ListBracket) = None

-- A string may stand where a value may, and in an object where nothing or a comma stands before.
abbrev pub as_string : Expects → Option Bracket → Option Move
as_string First k = item_or_name k
as_string Next k = item_or_name k
as_string Colon k = None
as_string Value k = Some (Within After)
as_string After k = None

-- inside any brackets
abbrev pub in_brackets : Option Bracket → Option Move
in_brackets None = None
in_brackets (Some k) = Some (Within Next)

-- A comma may stand behind a value in brackets.
abbrev pub as_comma : Expects → Option Bracket → Option Move
as_comma First k = None
as_comma Next k = None
as_comma Colon k = None
as_comma Value k = None
as_comma After k = in_brackets k

-- A colon may stand behind a name.
abbrev pub as_colon : Expects → Option Move
as_colon First = None
as_colon Next = None
as_colon Colon = Some (Within Value)
as_colon Value = None
as_colon After = None

-- a bracket of this kind closes one of the same
abbrev pub closes : Bracket → Option Bracket → Option Move
closes k None = None
closes Array (Some Array) = Some Closes
closes Array (Some Object) = None
closes Array (Some ListBracket) = None
closes Object (Some Array) = None
closes Object (Some Object) = Some Closes
closes Object (Some ListBracket) = None
closes ListBracket (Some j) = None

-- A closing bracket may stand behind the opening one, and behind a value.
abbrev pub as_closing : Bracket → Expects → Option Bracket → Option Move
as_closing k First j = closes k j
as_closing k Next j = None
as_closing k Colon j = None
as_closing k Value j = None
as_closing k After j = closes k j

-- what a word of this sort does at a place; none where it may not stand there
abbrev pub sort_moves : Sort → Expects → Option Bracket → Option Move
sort_moves begin_array e k = as_value e k (Opens Array)
sort_moves end_array e k = as_closing Array e k
sort_moves begin_object e k = as_value e k (Opens Object)
sort_moves end_object e k = as_closing Object e k
sort_moves value_separator e k = as_comma e k
sort_moves name_separator e k = as_colon e
sort_moves string e k = as_string e k
sort_moves number e k = as_value e k (Within After)
sort_moves literal e k = as_value e k (Within After)
sort_moves no_word e k = None

-- the closing brackets
abbrev pub closing : Sort → Bool
closing begin_array = false
closing end_array = true
closing begin_object = false
closing end_object = true
closing value_separator = false
closing name_separator = false
closing string = false
closing number = false
closing literal = false
closing no_word = false

-- The Break before a word: each first item or name has one without a blank, each later one has one with a blank, and
-- a closing bracket behind a value has one whose offset takes its block's back.
abbrev pub sort_lead : Expects → Sort → Option Break
sort_lead First s = cond (closing s) None (Some (record { blanks = 0; offset = pos 0 }))
sort_lead Next s = Some (record { blanks = 1; offset = pos 0 })
sort_lead Colon s = None
sort_lead Value s = None
sort_lead After s = cond (closing s) (Some (record { blanks = 0; offset = negsuc 1 })) None

-- the bytes of a word's Text: a colon is followed by a blank
abbrev pub json_text : Word → List ℕ
json_text [] = []
json_text (b ∷ []) = cond (b == 0x3A) (b ∷ (0x20 ∷ [])) (b ∷ [])
json_text (b ∷ (c ∷ w)) = b ∷ (c ∷ w)

-- a document may end behind a value
abbrev pub json_ends : Expects → Bool
json_ends First = false
json_ends Next = false
json_ends Colon = false
json_ends Value = false
json_ends After = true

-- the rules
abbrev pub json_rules : Rules
json_rules = record {
  kind = kind_of;
  begins = λ b. begins_in (class_of b);
  turns = json_turns;
  whole = json_whole;
  delimits = delimits;
  moves = λ e k b. sort_moves (sort_of b) e k;
  lead = λ e b. sort_lead e (sort_of b);
  block = record { offset = pos 2; fold = All; anchor = Indent };
  text = json_text;
  start = Value;
  ends = json_ends;
}
