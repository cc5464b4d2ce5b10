-- The places that are reached: from each a document can be finished, and a word behind an atom stands apart from it.
use Rattle.std.proofs.Common.{◌≡◌, ℕ, ◌<◌, ◌≤◌, Bool, true, ◌⊎◌, List, [], ◌∷◌, Some, None, Option, sym, refl, ap, ◌∙◌, subst, inl, arith}
use Rattle.grammar.specs.Meaning.{Word}
use Rattle.rules.specs.declared.word.Inside.{Inside}
use Rattle.rules.specs.declared.word.Begin.{Begin}
use Rattle.rules.specs.declared.word.Begin.TheVariants.{Blank as BlankByte, Sole, Starts, Never as NeverBegins}
use Rattle.rules.specs.declared.place.Bracket.{Bracket}
use Rattle.rules.specs.declared.place.Expects.{Expects}
use Rattle.rules.specs.declared.place.Expects.TheVariants.{First, Next, Colon, Value, After}
use Rattle.rules.specs.declared.place.Move.{Move}
use Rattle.rules.specs.declared.place.Move.TheVariants.{Within, Opens, Closes}
use Rattle.rules.specs.Rules.{Place, loose, innermost, moved, moves_at, placed}
use Rattle.rules.specs.Language.{parses}
use Rattle.rules.specs.Lawful.{Reached, at_first, one_on, AllSpelled, Closing, Apart, Ranged, fits_kind}
use Rattle.sexpr_language.specs.declared.class.Class.{Class}
use Rattle.sexpr_language.specs.declared.class.Class.TheVariants.{Close}
use Rattle.sexpr_language.specs.Classes.{class_of}
use Rattle.sexpr_language.specs.Rules.{class_kind, class_begins, class_delimits, class_moves, place_moves, class_lead, place_lead, may_end, sexpr_rules}
use Rattle.sexpr_language.proofs.Cases.{by_class, never}
use Rattle.sexpr_language.proofs.Trees.{after_as_first}

-- what holds of no move, and of the moves where an expression may stand, holds of the moves at every place
pub wherever : (P : Option Move → Type 0) → P None → (e : Expects) (k : Option Bracket) (c : Class) → P (class_moves k c) → P (place_moves e k c)
wherever P none First k c h = h
wherever P none Next k c h = none
wherever P none Colon k c h = none
wherever P none Value k c h = none
wherever P none After k c h = h

-- at each place that is reached an expression may stand, and the document may end
abbrev Lands : Option Move → Type 0
Lands None = Unit {0}
Lands (Some m) = (ks : List Bracket) → may_end (moved m ks).expects ≡ true

lands : (k : Option Bracket) (c : Class) → Lands (class_moves k c)
lands k = by_class (λ c. Lands (class_moves k c)) tt tt tt (λ _. refl) (λ _. refl) (closing k) (λ _. refl) (λ _. refl) tt
  where
    closing : (k : Option Bracket) → Lands (class_moves k Close)
    closing None = tt
    closing (Some k) = λ _. refl

placed_so : (m : Option Move) (p : Place) → Lands m → may_end p.expects ≡ true → may_end (placed m p).expects ≡ true
placed_so None p l h = h
placed_so (Some m) p l h = l p.brackets

pub reached_so : {p : Place} → Reached sexpr_rules p → may_end p.expects ≡ true
reached_so at_first = refl
reached_so (one_on p q b x a e) = ap (λ (r : Place). may_end r.expects) e ∙ placed_so (moves_at sexpr_rules p b) p (wherever Lands tt p.expects _ _ (lands (innermost p.brackets) (class_of b))) (reached_so x)

-- from there a document is finished by a closing parenthesis for each open one
abbrev closings : List Bracket → List Word
closings [] = []
closings (k ∷ ks) = (0x29 ∷ []) ∷ closings ks

closings_spelled : (ks : List Bracket) → AllSpelled sexpr_rules (closings ks)
closings_spelled [] = tt
closings_spelled (k ∷ ks) = (refl, closings_spelled ks)

closings_parse : (ks : List Bracket) → parses sexpr_rules (record { expects = First; brackets = ks }) (closings ks) ≡ true
closings_parse [] = refl
closings_parse (k ∷ ks) = after_as_first (closings ks) ks ∙ closings_parse ks

-- wherever the document may end, what may come is what may come first
as_first : (e : Expects) (ks : List Bracket) (ws : List Word) → may_end e ≡ true → parses sexpr_rules (record { expects = e; brackets = ks }) ws ≡ parses sexpr_rules (record { expects = First; brackets = ks }) ws
as_first First ks ws h = refl
as_first Next ks ws h = never h
as_first Colon ks ws h = never h
as_first Value ks ws h = never h
as_first After ks ws h = after_as_first ws ks

pub place_finish : (p : Place) → may_end p.expects ≡ true → Closing sexpr_rules p
place_finish p h =
    let ks = p.brackets in
    record { closing_words = closings ks; good = closings_spelled ks; fits = as_first p.expects ks (closings ks) h ∙ closings_parse ks }

-- behind an atom, a word begins with a Break, or is a closing parenthesis, which delimits
abbrev LandsAfter : Option Move → Type 0
LandsAfter None = Unit {0}
LandsAfter (Some m) = (ks : List Bracket) → (moved m ks).expects ≡ After

atom_lands : (k : Option Bracket) (c : Class) → loose (class_kind c) ≡ true → LandsAfter (class_moves k c)
atom_lands k = by_class (λ c. loose (class_kind c) ≡ true → LandsAfter (class_moves k c)) (λ _. tt) (λ _. tt) (λ _. tt) never never never (λ _ _. refl) (λ _ _. refl) (λ _. tt)

one_apart : (d : Bool) → (0 < 1) ⊎ (d ≡ true)
one_apart d = inl (omega arith)

led_apart : (c : Class) → Apart (class_lead c) (class_delimits c)
led_apart = by_class (λ c. Apart (class_lead c) (class_delimits c)) (one_apart _) (one_apart _) (one_apart _) (one_apart _) (one_apart _) refl (one_apart _) (one_apart _) (one_apart _)

pub atom_apart : (p : Place) (b c : ℕ) (m : Move) → loose (class_kind (class_of b)) ≡ true → moves_at sexpr_rules p b ≡ Some m → Apart (place_lead (moved m p.brackets).expects (class_of c)) (class_delimits (class_of c))
atom_apart p b c m h e =
    let after = wherever LandsAfter tt p.expects _ _ (atom_lands (innermost p.brackets) (class_of b) h) in
    subst (λ x. Apart (place_lead x (class_of c)) (class_delimits (class_of c))) (sym (subst LandsAfter e after p.brackets)) (led_apart (class_of c))

-- only an open parenthesis is closed
abbrev pub NotClosing : Option Move → Type 0
NotClosing None = Unit {0}
NotClosing (Some (Within e)) = Unit {0}
NotClosing (Some (Opens k)) = Unit {0}
NotClosing (Some Closes) = ⊥

pub not_closing : (c : Class) → NotClosing (class_moves None c)
not_closing = by_class (λ c. NotClosing (class_moves None c)) tt tt tt tt tt tt tt tt tt

-- Breaks are in range
one_ranged : (1 ≤ 8) × (0 ≤ 16)
one_ranged = omega arith

pub lead_ranged : (e : Expects) (c : Class) → Ranged (place_lead e c)
lead_ranged First c = tt
lead_ranged Next c = tt
lead_ranged Colon c = tt
lead_ranged Value c = tt
lead_ranged After c = by_class (λ x. Ranged (class_lead x)) one_ranged one_ranged one_ranged one_ranged one_ranged tt one_ranged one_ranged one_ranged c

-- a word that only starts with its first byte stays within the same brackets
abbrev WithinOnly : Option Move → Type 0
WithinOnly None = Unit {0}
WithinOnly (Some (Within e)) = Unit {0}
WithinOnly (Some (Opens k)) = ⊥
WithinOnly (Some Closes) = ⊥

abbrev Starting : Begin → Option Move → Type 0
Starting BlankByte o = Unit {0}
Starting Sole o = Unit {0}
Starting (Starts i) o = WithinOnly o
Starting NeverBegins o = Unit {0}

starting : (k : Option Bracket) (c : Class) → Starting (class_begins c) (class_moves k c)
starting k = by_class (λ c. Starting (class_begins c) (class_moves k c)) tt tt tt tt tt tt tt tt tt

within : (m : Move) → WithinOnly (Some m) → (x : Expects) × (m ≡ Within x)
within (Within e) h = (e, refl)
within (Opens k) h = absurd h
within Closes h = absurd h

pub stays_within : (b : ℕ) (i : Inside) (e : Expects) (k : Option Bracket) (m : Move) → class_begins (class_of b) ≡ Starts i → place_moves e k (class_of b) ≡ Some m → (x : Expects) × (m ≡ Within x)
stays_within b i e k m h f = within m (subst WithinOnly f (wherever WithinOnly tt e k (class_of b) (subst (λ y. Starting y (class_moves k (class_of b))) h (starting k (class_of b)))))

-- what a word does shows in its kind
pub class_shows : (k : Option Bracket) (c : Class) → fits_kind (class_kind c) (class_moves k c) ≡ true
class_shows None = by_class (λ c. fits_kind (class_kind c) (class_moves None c) ≡ true) refl refl refl refl refl refl refl refl refl
class_shows (Some j) = by_class (λ c. fits_kind (class_kind c) (class_moves (Some j) c) ≡ true) refl refl refl refl refl refl refl refl refl
