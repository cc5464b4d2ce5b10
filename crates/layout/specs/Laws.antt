-- The laws of the layout that printing rests on.
use Rattle.std.specs.Prelude.{◌≡◌, ℕ, ◌≤◌, Bool, true, false, List, ◌++◌}
use Rattle.layout.specs.Tokens.{Token, widths}
use Rattle.layout.specs.Layout.{Pen, ended, joined, layout}
use Rattle.layout.specs.Passing.{Passed, pass, so_far, written, held_back}
use Rattle.layout.specs.Writings.{Choice, free_writing}

-- the first list is a beginning of the second
abbrev pub Begins : List ℕ → List ℕ → Type 0
Begins xs ys = (rest : List ℕ) × (ys ≡ xs ++ rest)

-- what is written so far begins the layout of every continuation
abbrev pub WrittenBegins : Type 0
WrittenBegins = (margin : ℕ) (ts us : List Token) → Begins (written margin ts) (layout margin (ts ++ us))

-- what is held back measures at most the margin
abbrev pub HeldIsNarrow : Type 0
HeldIsNarrow = (margin : ℕ) (ts : List Token) → widths (held_back margin ts) ≤ margin

-- what was passed before, and then what is passed now
abbrev pub onto : List (List ℕ) → Passed → Passed
onto ps p = record { pieces = ps ++ p.pieces; pen = p.pen; held = p.held }

-- passing in pieces is passing at once
abbrev pub PassingJoins : Type 0
PassingJoins = (over : Bool) (margin : ℕ) (pen : Pen) (ts us : List Token)
    → pass over margin pen (ts ++ us)
    ≡ onto (pass false margin pen ts).pieces (pass over margin (pass false margin pen ts).pen ((pass false margin pen ts).held ++ us))

-- at the end the rest follows
abbrev pub RestFollows : Type 0
RestFollows = (margin : ℕ) (ts : List Token)
    → layout margin ts
    ≡ written margin ts ++ joined ((pass true margin (so_far margin ts).pen (held_back margin ts)).pieces ++ ended ts)

-- a layout is one of the free writings of its tokens
abbrev pub LayoutIsFree : Type 0
LayoutIsFree = (margin : ℕ) (ts : List Token) → (choice : ℕ → Choice) × (layout margin ts ≡ free_writing choice ts)
