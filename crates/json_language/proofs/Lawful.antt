-- The rules of JSON are lawful.
use Rattle.std.proofs.Common.{◌≡◌, ℕ, Bool, true, false, cond, ◌||◌, eqb, ◌⊎◌, List, [], ◌∷◌, Some, None, codes, Option, refl, ap, subst, inl, inr, arith}
use Rattle.std.proofs.lemmas.Bool.{false≢true, and_right, or_parts, or_from, cond_both, cond-false}
use Rattle.std.proofs.lemmas.Bool.Decides.{nat_tests}
use Rattle.grammar.specs.Meaning.{Word}
use Rattle.rules.specs.declared.word.Part.{Part}
use Rattle.rules.specs.declared.word.Part.TheVariants.{Minus, Zero, Integer, Point, Fraction, Letter, Sign, Exponent}
use Rattle.rules.specs.declared.word.Inside.{Inside}
use Rattle.rules.specs.declared.word.Inside.TheVariants.{Quoted, Number, Literal, Atom}
use Rattle.rules.specs.declared.word.Begin.TheVariants.{Sole, Starts}
use Rattle.rules.specs.declared.word.Turn.{Turn}
use Rattle.rules.specs.declared.word.Turn.TheVariants.{Stays, Never}
use Rattle.rules.specs.declared.place.Bracket.{Bracket}
use Rattle.rules.specs.declared.place.Expects.{Expects}
use Rattle.rules.specs.declared.place.Expects.TheVariants.{After}
use Rattle.rules.specs.declared.place.Move.{Move}
use Rattle.rules.specs.declared.place.Move.TheVariants.{Within}
use Rattle.rules.specs.Rules.{loose}
use Rattle.rules.specs.Lawful.{Lawful, first_byte}
use Rattle.json_language.specs.declared.class.Class.{Class}
use Rattle.json_language.specs.declared.class.Class.TheVariants.{Point as PointByte, Exponent as ExponentByte}
use Rattle.json_language.specs.Classes.{class_of, is}
use Rattle.json_language.specs.Words.{number, literal, sort_of, kind_of, delimits, IsLiteral}
use Rattle.rules.specs.Escapes.{escape_of}
use Rattle.json_language.specs.Rules.{begins_in, digits, number_part, number_turn, number_whole, goes_on, literal_goes_on, string_turn, json_turns, json_whole, json_text, sort_moves, json_rules}
use Rattle.json_language.proofs.Bytes.{delimiter_class}
use Rattle.json_language.proofs.Literals.{whole_literal}
use Rattle.json_language.proofs.Underway.{Known, known, closing_not_loose, whole_loose, finish}
use Rattle.json_language.proofs.Places.{sort_shows, string_within, loose_after, none_closed, stays_apart, leads_ranged, reached_sane, place_closes}

-- no word holds a newline
abbrev has_newline : List ℕ → Bool
has_newline [] = false
has_newline (y ∷ ys) = eqb 0x0A y || has_newline ys

no_newline_on : (c w : List ℕ) → has_newline c ≡ false → goes_on c w 0x0A ≡ false
no_newline_on [] w h = refl
no_newline_on (y ∷ c) [] h = (or_parts (eqb 0x0A y) (has_newline c) h).0
no_newline_on (y ∷ c) (x ∷ w) h = and_right (eqb x y) (goes_on c w 0x0A) (no_newline_on c w (or_parts (eqb 0x0A y) (has_newline c) h).1)

never_both : (t : Bool) (u : Turn) → u ≡ Never → cond t u Never ≡ Never
never_both true u e = e
never_both false u e = refl

newline_in_string : (e : List ℕ) → string_turn e 0x0A ≡ Never
newline_in_string [] = refl
newline_in_string (x ∷ []) = never_both (eqb x 0x5C) Never refl
newline_in_string (x ∷ (y ∷ hs)) = never_both (eqb x 0x5C) (cond (eqb y 0x75) Never Never) (never_both (eqb y 0x75) Never refl)

newline_ends : (i : Inside) (w : Word) → json_turns i w 0x0A ≡ Never
newline_ends (Quoted n) w = newline_in_string (escape_of n w)
newline_ends (Number Minus) w = refl
newline_ends (Number Zero) w = refl
newline_ends (Number Integer) w = refl
newline_ends (Number Point) w = refl
newline_ends (Number Fraction) w = refl
newline_ends (Number Letter) w = refl
newline_ends (Number Sign) w = refl
newline_ends (Number Exponent) w = refl
newline_ends Literal w =
    cond-false (literal_goes_on w 0x0A) (Stays Literal) Never
    (or_from _ _ (no_newline_on (codes "true") w refl) (or_from _ _ (no_newline_on (codes "false") w refl) (no_newline_on (codes "null") w refl)))
newline_ends Atom w = refl

-- a byte that delimits is no part of a whole word
after_literal : (w : Word) (b : ℕ) → IsLiteral w → literal_goes_on w b ≡ false
after_literal w b (inl e) = rw e
after_literal w b (inr (inl e)) = rw e
after_literal w b (inr (inr e)) = rw e

after_number : (p : Part) (c : Class) → number_whole p ≡ true → digits c ≡ false → is PointByte c ≡ false → is ExponentByte c ≡ false → number_part p c ≡ None
after_number Minus c h d p e = absurd (false≢true h)
after_number Zero c h d p e = rw (p, e)
after_number Integer c h d p e = rw (d, p, e)
after_number Point c h d p e = absurd (false≢true h)
after_number Fraction c h d p e = rw (d, e)
after_number Letter c h d p e = absurd (false≢true h)
after_number Sign c h d p e = absurd (false≢true h)
after_number Exponent c h d p e = rw d

delimiter : (i : Inside) (w : Word) (b : ℕ) → json_whole i w ≡ true → delimits b ≡ true → json_turns i w b ≡ Never
delimiter (Quoted n) w b h d = absurd (false≢true h)
delimiter (Number p) w b h d =
    let (no_digit, no-point, no-e) = delimiter_class b d in
    ap number_turn (after_number p (class_of b) h no_digit no-point no-e)
delimiter Literal w b h d = cond-false (literal_goes_on w b) (Stays Literal) Never (after_literal w b ((whole_literal w).0 h))
delimiter Atom w b h d = absurd (false≢true h)

sole : (b : ℕ) → begins_in (class_of b) ≡ Sole → loose (kind_of b) ≡ false
sole b h = grind (arith, nat_tests)

-- a word of more than one byte opens and closes no bracket
started : (i : Inside) (b : ℕ) (e : Expects) (k : Option Bracket) (m : Move) → Known i (b ∷ []) → sort_moves (sort_of b) e k ≡ Some m → (x : Expects) × (m ≡ Within x)
started (Quoted n) b e k m (s, _) h = string_within e k m (subst (λ t. sort_moves t e k ≡ Some m) s h)
started (Number p) b e k m s h = (After, loose_after number e k m refl (subst (λ t. sort_moves t e k ≡ Some m) s h))
started Literal b e k m (s, _) h = (After, loose_after literal e k m refl (subst (λ t. sort_moves t e k ≡ Some m) s h))
started Atom b e k m c h = absurd c

pub started_within : (b : ℕ) (i : Inside) (e : Expects) (k : Option Bracket) (m : Move) → begins_in (class_of b) ≡ Starts i → sort_moves (sort_of b) e k ≡ Some m → (x : Expects) × (m ≡ Within x)
started_within b i e k m g h = started i b e k m (known i (b ∷ []) (first_byte i b g)) h

-- a Text is its word, or a colon and a blank
text : (b : ℕ) (w : Word) → (json_text (b ∷ w) ≡ b ∷ w) ⊎ ((w ≡ []) × (json_text (b ∷ w) ≡ b ∷ (0x20 ∷ [])))
text b [] =
    cond_both (eqb b 0x3A) (b ∷ (0x20 ∷ [])) (b ∷ []) (λ (t : List ℕ). (t ≡ b ∷ []) ⊎ ((◌≡◌ {A = List ℕ} [] []) × (t ≡ b ∷ (0x20 ∷ [])))) (λ _. inr (refl, refl)) (λ _. inl refl)
text b (c ∷ w) = inl refl

pub json_lawful : Lawful json_rules
json_lawful = record {
  blank_is_blank = refl;
  newline_is_blank = refl;
  blank_delimits = refl;
  newline_delimits = refl;
  no_newline = newline_ends;
  sole_not_loose = sole;
  closed_not_loose = λ i b c w g. closing_not_loose i b c w (known i (b ∷ w) g);
  whole_is_loose = λ i b w g. whole_loose i b w (known i (b ∷ w) g);
  delimiter_ends = delimiter;
  word_closing = λ i w g. finish i w (known i w g);
  place_closing = λ p g. place_closes p (reached_sane p g);
  apart = stays_apart;
  kind_shows = λ e k b. sort_shows (sort_of b) e k;
  started_stays = started_within;
  closes_open = λ e b. none_closed e (sort_of b);
  leads_near = λ e b. leads_ranged e (sort_of b);
  block_near = omega arith;
  text_is_word = text;
}
