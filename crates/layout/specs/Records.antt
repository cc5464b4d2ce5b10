-- Three sample records at margin 16, as tokens, and what their layouts are.
use Rattle.std.specs.Prelude.{◌≡◌, ℕ, Bool, true, false, ◌&&◌, List, [], ◌∷◌, length, pos, negsuc, codes, ◌==◌}
use Rattle.lines.specs.Lines.{newlines, widest}
use Rattle.layout.specs.declared.token.Fold.TheVariants.{All, Each}
use Rattle.layout.specs.declared.token.Anchor.TheVariants.{Column, Indent}
use Rattle.layout.specs.Tokens.{Token, Text, Break, Opening, Ending}
use Rattle.layout.specs.Layout.{layout}

-- the tokens of `{"tare":[1,7]}` and, with another first number, of `{"tare":[12,7]}`
abbrev pub tare : List ℕ → List Token
tare first =
    Opening (pos 2) All Indent ∷ Text (codes "{") ∷ Break 0 (pos 0) ∷ Text (codes "\"tare\"") ∷ Text (codes ": ")
    ∷ Opening (pos 2) All Indent ∷ Text (codes "[") ∷ Break 0 (pos 0) ∷ Text first ∷ Text (codes ",") ∷ Break 1 (pos 0) ∷ Text (codes "7")
    ∷ Break 0 (negsuc 1) ∷ Text (codes "]") ∷ Ending ∷ Break 0 (negsuc 1) ∷ Text (codes "}") ∷ Ending ∷ []

-- the tokens of `(split (paper 40) (glass 8))`
abbrev pub split : List Token
split =
    Opening (pos 1) Each Column ∷ Text (codes "(") ∷ Text (codes "split") ∷ Break 1 (pos 0)
    ∷ Opening (pos 1) Each Column ∷ Text (codes "(") ∷ Text (codes "paper") ∷ Break 1 (pos 0) ∷ Text (codes "40") ∷ Text (codes ")") ∷ Ending
    ∷ Break 1 (pos 0)
    ∷ Opening (pos 1) Each Column ∷ Text (codes "(") ∷ Text (codes "glass") ∷ Break 1 (pos 0) ∷ Text (codes "8") ∷ Text (codes ")") ∷ Ending
    ∷ Text (codes ")") ∷ Ending ∷ []

-- a record's tokens; the bytes of its layout, how many they are, its newlines and its widest line
pub record Sample : Type 0 where
  pub tokens : List Token
  pub text : List ℕ
  pub bytes : ℕ
  pub lines : ℕ
  pub wide : ℕ

-- are two texts the same?
abbrev pub same : List ℕ → List ℕ → Bool
same [] [] = true
same [] (y ∷ ys) = false
same (x ∷ xs) [] = false
same (x ∷ xs) (y ∷ ys) = x == y && same xs ys

-- the table: one line, six lines, three lines
abbrev pub samples : List Sample
samples =
    (record { tokens = tare (codes "1"); text = codes "{\"tare\": [1, 7]}\n"; bytes = 17; lines = 1; wide = 16 })
    ∷ (record { tokens = tare (codes "12"); text = codes "{\n  \"tare\": [\n    12,\n    7\n  ]\n}\n"; bytes = 34; lines = 6; wide = 11 })
    ∷ (record { tokens = split; text = codes "(split\n (paper 40)\n (glass 8))\n"; bytes = 31; lines = 3; wide = 11 })
    ∷ []

-- is the sample laid out so at margin 16?
abbrev pub right : Sample → Bool
right s = same (layout 16 s.tokens) s.text && (length s.text == s.bytes && (newlines s.text == s.lines && widest s.text == s.wide))

abbrev pub all_right : List Sample → Bool
all_right [] = true
all_right (s ∷ ss) = right s && all_right ss

abbrev pub RecordsHold : Type 0
RecordsHold = all_right samples ≡ true
