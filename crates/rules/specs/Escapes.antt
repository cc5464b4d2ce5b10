-- Strings: the escape under way, and what a byte is where there is none.
use Rattle.std.specs.Prelude.{ℕ, ◌-◌, cond, List, length, drop, ◌==◌, nat_le}
use Rattle.grammar.specs.Meaning.{Word}
use Rattle.rules.specs.declared.word.Inside.TheVariants.{Quoted}
use Rattle.rules.specs.declared.word.Turn.{Turn}
use Rattle.rules.specs.declared.word.Turn.TheVariants.{Stays, Closes, Never}

-- the bytes of the escape under way: the last n of the word
abbrev pub escape_of : ℕ → Word → List ℕ
escape_of n w = drop (length w - n) w

-- where none is under way: a quotation mark closes the string, a backslash begins an escape, and no string has a byte below 0x20
abbrev pub unescaped_turn : ℕ → Turn
unescaped_turn b = cond (b == 0x22) Closes (cond (b == 0x5C) (Stays (Quoted 1)) (cond (nat_le 0x20 b) (Stays (Quoted 0)) Never))
