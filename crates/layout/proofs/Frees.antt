-- A layout is one of the free writings of its tokens.
use Rattle.std.proofs.Common.{◌≡◌, ℕ, zero, suc, Bool, true, false, cond, List, [], ◌∷◌, ◌++◌, refl, ap, ◌∙◌}
use Rattle.layout.specs.Tokens.{Token, Text, Break, Opening, Ending}
use Rattle.layout.specs.Layout.{Pen, start, innermost, stays, blanks, next_indent, writes, after, fits, pieces, ended, joined}
use Rattle.layout.specs.Writings.{Choice, as_blanks, as_line, chosen, shown, shown_all}
use Rattle.layout.specs.Laws.{LayoutIsFree}
use Rattle.layout.proofs.Passes.{joined_append}

abbrev choice_of : Bool → ℕ → Choice
choice_of true k = as_blanks
choice_of false k = as_line k

chosen_of : (b : Bool) (n k : ℕ) → cond b (blanks n) (0x0A ∷ blanks k) ≡ chosen (choice_of b k) n
chosen_of true n k = refl
chosen_of false n k = refl

piece_free : (m : ℕ) (pen : Pen) (t : Token) (f : Bool) → (c : Choice) × (writes m pen t f ≡ shown c t)
piece_free m pen (Text bytes) f = (as_blanks, refl)
piece_free m pen (Break n offset) f =
    (choice_of (stays (innermost pen.blocks).fold f) (next_indent m pen offset), chosen_of (stays (innermost pen.blocks).fold f) n (next_indent m pen offset))
piece_free m pen (Opening offset fold anchor) f = (as_blanks, refl)
piece_free m pen Ending f = (as_blanks, refl)

abbrev first_then : Choice → (ℕ → Choice) → ℕ → Choice
first_then c next zero = c
first_then c next (suc k) = next k

pieces_free : (m : ℕ) (pen : Pen) (ts : List Token) → (choice : ℕ → Choice) × (joined (pieces m pen ts) ≡ shown_all choice ts)
pieces_free m pen [] = (λ k. as_blanks, refl)
pieces_free m pen (t ∷ ts) =
    let f = fits m pen t ts in
    let one = piece_free m pen t f in
    let more = pieces_free m (after m pen t f) ts in
    (first_then one.0 more.0, ap (λ (xs : List ℕ). xs ++ joined (pieces m (after m pen t f) ts)) one.1 ∙ ap (λ (xs : List ℕ). shown one.0 t ++ xs) more.1)

pub layout_is_free : LayoutIsFree
layout_is_free m ts =
    let p = pieces_free m start ts in
    (p.0, joined_append (pieces m start ts) (ended ts) ∙ ap (λ (xs : List ℕ). xs ++ joined (ended ts)) p.1)
