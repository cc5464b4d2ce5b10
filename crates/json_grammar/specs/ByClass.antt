-- What the rules say of a byte, said of its class.
use Rattle.std.specs.Prelude.{Bool, ◌||◌}
use Rattle.rules.specs.Language.{is_blank}
use Rattle.json_language.specs.declared.class.Class.{Class}
use Rattle.json_language.specs.declared.class.Class.TheVariants.{Control, Blank, Space, Quote, Backslash, OpenArray, CloseArray, OpenObject, CloseObject, Comma, Colon, Minus, Plus, Point, Zero, Digit, Exponent, Letter, Other}
use Rattle.json_language.specs.Words.{Sort, begin_array, end_array, begin_object, end_object, value_separator, name_separator, string, number, literal, no_word, adjoins}
use Rattle.json_language.specs.Rules.{begins_in}

-- the sort of a word with a first byte of this class
abbrev pub sort_in : Class → Sort
sort_in Control = no_word
sort_in Blank = no_word
sort_in Space = no_word
sort_in Quote = string
sort_in Backslash = no_word
sort_in OpenArray = begin_array
sort_in CloseArray = end_array
sort_in OpenObject = begin_object
sort_in CloseObject = end_object
sort_in Comma = value_separator
sort_in Colon = name_separator
sort_in Minus = number
sort_in Plus = no_word
sort_in Point = no_word
sort_in Zero = number
sort_in Digit = number
sort_in Exponent = no_word
sort_in Letter = literal
sort_in Other = no_word

-- may a byte of this class follow a number or a literal?
abbrev pub delimits_in : Class → Bool
delimits_in c = is_blank (begins_in c) || adjoins (sort_in c)
