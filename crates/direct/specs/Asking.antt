-- What a token must be to be laid out.
use Rattle.std.specs.Prelude.{◌≡◌, ◌<◌, ◌≤◌, List, length}
use Rattle.lines.specs.Lines.{newlines}
use Rattle.layout.specs.Tokens.{Token, Text, Break, Opening, Ending, nest}

-- fewer than 1,000,000 tokens were given; a Text has at most 255 bytes and no newline; an Opening finds fewer than 64 blocks open
abbrev pub FitToken : List Token → Token → Type 0
FitToken ts (Text bytes) = (length bytes ≤ 255) × (newlines bytes ≡ 0)
FitToken ts (Break blanks offset) = Unit {0}
FitToken ts (Opening offset fold anchor) = nest 0 ts < 64
FitToken ts Ending = Unit {0}

abbrev pub Fit : List Token → Token → Type 0
Fit ts t = (length ts < 1000000) × FitToken ts t
