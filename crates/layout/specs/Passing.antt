-- What may be written while tokens still come: what is passed, and what is held back.
use Rattle.std.specs.Prelude.{ℕ, Bool, false, cond, not, ◌||◌, List, [], ◌∷◌}
use Rattle.layout.specs.Tokens.{Token, opens, free, reached}
use Rattle.layout.specs.Layout.{Pen, start, writes, after, fits, joined}

-- the most tokens that are held back
abbrev pub most_held : ℕ
most_held = 384

-- May the first of `t ∷ ts` be passed, given whether the document has ended? A Text or an Ending always; an Opening or a
-- Break once its reach has come, the document has ended, or the column plus the widths from it to the latest token passes
-- the margin (until the reach comes, its size is these widths).
abbrev pub decided : Bool → ℕ → Pen → Token → List Token → Bool
decided over margin pen t ts = over || (free t || (reached (opens t) ts || not (fits margin pen t ts)))

-- what was written, by token; where writing stands; the tokens held back
pub record Passed : Type 0 where
  pub pieces : List (List ℕ)
  pub pen : Pen
  pub held : List Token

-- one piece more in front
abbrev pub behind : List ℕ → Passed → Passed
behind piece p = record { pieces = piece ∷ p.pieces; pen = p.pen; held = p.held }

-- passing all that may be passed, in order from the first on
abbrev pub pass : Bool → ℕ → Pen → List Token → Passed
pass over margin pen [] = record { pieces = []; pen = pen; held = [] }
pass over margin pen (t ∷ ts) = cond (decided over margin pen t ts) (behind (writes margin pen t (fits margin pen t ts)) (pass over margin (after margin pen t (fits margin pen t ts)) ts)) (record { pieces = []; pen = pen; held = t ∷ ts })

-- the same from the start, while more may come
abbrev pub so_far : ℕ → List Token → Passed
so_far margin ts = pass false margin start ts

-- what is written of `ts`, while more may come
abbrev pub written : ℕ → List Token → List ℕ
written margin ts = joined (so_far margin ts).pieces

-- what is held back of `ts`
abbrev pub held_back : ℕ → List Token → List Token
held_back margin ts = (so_far margin ts).held
