-- How the words of JSON are spelled, after RFC 8259.
use Rattle.std.specs.Prelude.{◌≡◌, ℕ, Bool, true, false, cond, not, ◌&&◌, ◌||◌, ◌⊎◌, List, [], ◌∷◌, codes, ◌==◌, nat_le}
use Rattle.grammar.specs.Meaning.{Word}
use Rattle.rules.specs.declared.word.Kind.{Kind}
use Rattle.rules.specs.declared.word.Kind.TheVariants.{Opening, Closing, Comma, Colon, Text, Number, Literal, Atom}

-- the bytes from one to another
abbrev pub between : ℕ → ℕ → ℕ → Bool
between low high b = nat_le low b && nat_le b high

-- the bytes of a number: -; - or +; the point; 0; 1 to 9; 0 to 9; e or E
abbrev pub minus : ℕ → Bool
minus b = b == 0x2D

abbrev pub sign : ℕ → Bool
sign b = minus b || b == 0x2B

abbrev pub decimal_point : ℕ → Bool
decimal_point b = b == 0x2E

abbrev pub zero_digit : ℕ → Bool
zero_digit b = b == 0x30

abbrev pub digit_1_9 : ℕ → Bool
digit_1_9 b = between 0x31 0x39 b

abbrev pub digit : ℕ → Bool
digit b = between 0x30 0x39 b

abbrev pub e_letter : ℕ → Bool
e_letter b = b == 0x65 || b == 0x45

-- the bytes of a string that stand for themselves: from 0x20 up, but no quotation mark and no backslash
abbrev pub unescaped : ℕ → Bool
unescaped b = nat_le 0x20 b && (not (b == 0x22) && not (b == 0x5C))

-- those that a backslash may stand before: a quotation mark, a backslash, a slash, b, f, n, r or t
abbrev pub escapable : ℕ → Bool
escapable b = b == 0x22 || (b == 0x5C || (b == 0x2F || (b == 0x62 || (b == 0x66 || (b == 0x6E || (b == 0x72 || b == 0x74))))))

-- hexadecimal digits
abbrev pub hexadecimal : ℕ → Bool
hexadecimal b = digit b || (between 0x41 0x46 b || between 0x61 0x66 b)

-- the sorts of words; no word of JSON has the last
pub data Sort : Type 0 where
  begin_array end_array begin_object end_object value_separator name_separator string number literal no_word : Sort

-- the sort of a word with this first byte
abbrev pub sort_of : ℕ → Sort
sort_of b =
    cond (b == 0x5B) begin_array
    (cond (b == 0x5D) end_array
    (cond (b == 0x7B) begin_object
    (cond (b == 0x7D) end_object
    (cond (b == 0x2C) value_separator
    (cond (b == 0x3A) name_separator
    (cond (b == 0x22) string
    (cond (minus b || digit b) number
    (cond (b == 0x74 || (b == 0x66 || b == 0x6E)) literal
    no_word))))))))

-- the sort of a word
abbrev pub first_sort : Word → Sort
first_sort [] = no_word
first_sort (b ∷ w) = sort_of b

-- Expressions over bytes. Each says which bytes may come, given which may come behind it.
abbrev pub Lang : Type 1
Lang = List ℕ → Type 0

-- nothing more
abbrev pub End : Lang
End [] = Unit {0}
End (b ∷ bs) = ⊥

-- one byte that passes the test
abbrev pub one : (ℕ → Bool) → Lang → Lang
one p K [] = ⊥
one p K (b ∷ bs) = (p b ≡ true) × K bs

-- such an expression, or nothing
abbrev pub maybe : (Lang → Lang) → Lang → Lang
maybe A K bs = A K bs ⊎ K bs

-- one of the two
abbrev pub either : (Lang → Lang) → (Lang → Lang) → Lang → Lang
either A B K bs = A K bs ⊎ B K bs

-- any number of bytes that pass the test
pub data Many (p : ℕ → Bool) (K : Lang) : List ℕ → Type 0 where
  none : {bs : List ℕ} → K bs → Many p K bs
  more : {b : ℕ} {bs : List ℕ} → p b ≡ true → Many p K bs → Many p K (b ∷ bs)

-- at least one
abbrev pub some : (ℕ → Bool) → Lang → Lang
some p K = one p (Many p K)

-- int = zero / ( digit1-9 *DIGIT )
abbrev pub int : Lang → Lang
int K = either (one zero_digit) (λ L. one digit_1_9 (Many digit L)) K

-- frac = decimal-point 1*DIGIT
abbrev pub frac : Lang → Lang
frac K = one decimal_point (some digit K)

-- exp = e [ minus / plus ] 1*DIGIT
abbrev pub exp : Lang → Lang
exp K = one e_letter (maybe (one sign) (some digit K))

-- number = [ minus ] int [ frac ] [ exp ]
abbrev pub IsNumber : Lang
IsNumber = maybe (one minus) (int (maybe frac (maybe exp End)))

-- What follows the quotation mark with which a string begins: the one with which it ends; or a byte that stands for
-- itself, a backslash and a byte, or a backslash, u and four hexadecimal digits, and then the rest.
pub data StringRest : List ℕ → Type 0 where
  quotation_mark : StringRest (0x22 ∷ [])
  plain : {bs : List ℕ} (b : ℕ) → unescaped b ≡ true → StringRest bs → StringRest (b ∷ bs)
  escape : {bs : List ℕ} (b : ℕ) → escapable b ≡ true → StringRest bs → StringRest (0x5C ∷ (b ∷ bs))
  unicode : {bs : List ℕ} (a b c d : ℕ) → hexadecimal a ≡ true → hexadecimal b ≡ true → hexadecimal c ≡ true → hexadecimal d ≡ true
      → StringRest bs → StringRest (0x5C ∷ (0x75 ∷ (a ∷ (b ∷ (c ∷ (d ∷ bs))))))

-- a literal
abbrev pub IsLiteral : Lang
IsLiteral w = (w ≡ codes "true") ⊎ ((w ≡ codes "false") ⊎ (w ≡ codes "null"))

-- How a word is spelled that begins with this byte, of this sort: a structural character stands alone.
abbrev pub SpelledAs : Sort → ℕ → Lang
SpelledAs begin_array b w = End w
SpelledAs end_array b w = End w
SpelledAs begin_object b w = End w
SpelledAs end_object b w = End w
SpelledAs value_separator b w = End w
SpelledAs name_separator b w = End w
SpelledAs string b w = StringRest w
SpelledAs number b w = IsNumber (b ∷ w)
SpelledAs literal b w = IsLiteral (b ∷ w)
SpelledAs no_word b w = ⊥

-- the bytes spell a word
abbrev pub Spelled : Word → Type 0
Spelled [] = ⊥
Spelled (b ∷ w) = SpelledAs (sort_of b) b w

-- the kind of a word of this sort; an atom is no word of JSON
abbrev pub kind_as : Sort → Kind
kind_as begin_array = Opening
kind_as end_array = Closing
kind_as begin_object = Opening
kind_as end_object = Closing
kind_as value_separator = Comma
kind_as name_separator = Colon
kind_as string = Text
kind_as number = Number
kind_as literal = Literal
kind_as no_word = Atom

-- the kind of a word with this first byte
abbrev pub kind_of : ℕ → Kind
kind_of b = kind_as (sort_of b)

-- the blank bytes: a blank, a tab, a newline, a carriage return
abbrev pub blank : ℕ → Bool
blank b = b == 0x20 || (b == 0x09 || (b == 0x0A || b == 0x0D))

-- the sorts of words that may stand right behind a number or a literal: the structural characters, and strings
abbrev pub adjoins : Sort → Bool
adjoins begin_array = true
adjoins end_array = true
adjoins begin_object = true
adjoins end_object = true
adjoins value_separator = true
adjoins name_separator = true
adjoins string = true
adjoins number = false
adjoins literal = false
adjoins no_word = false

-- the bytes that may stand there
abbrev pub delimits : ℕ → Bool
delimits b = blank b || adjoins (sort_of b)
