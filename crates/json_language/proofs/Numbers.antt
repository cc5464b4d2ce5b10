-- Numbers: what may follow each part of a number is what the rules let follow it.
use Rattle.std.proofs.Common.{◌≡◌, ℕ, Bool, true, false, ◌||◌, List, [], ◌∷◌, ◌++◌, Some, None, Option, sym, refl, subst, inl, inr, arith}
use Rattle.std.proofs.lemmas.Bool.{false≢true}
use Rattle.std.proofs.lemmas.Bool.Decides.{nat_tests}
use Rattle.grammar.specs.Meaning.{Word}
use Rattle.rules.specs.declared.word.Part.{Part}
use Rattle.rules.specs.declared.word.Part.TheVariants.{Minus, Zero, Integer, Point, Fraction, Letter, Sign, Exponent}
use Rattle.rules.specs.declared.word.Inside.TheVariants.{Number}
use Rattle.rules.specs.Language.{none_left, spelled_turn, spelled_on}
use Rattle.json_language.specs.declared.class.Class.TheVariants.{Minus as MinusByte, Plus as PlusByte, Point as PointByte, Zero as ZeroByte, Digit as DigitByte, Exponent as ExponentByte}
use Rattle.json_language.specs.Classes.{class_of, is}
use Rattle.json_language.specs.Words.{sign, digit, Lang, End, one, maybe, Many, none, more, some, int, frac, exp}
use Rattle.json_language.specs.Rules.{digits, to, number_part, number_turn, number_whole, json_rules}
use Rattle.json_language.proofs.Bytes.{sign_class, point_class, zero_class, digit_1_9_class, digit_class, e_class}

-- what may follow a byte of this part
abbrev pub Rest : Part → Lang
Rest Minus = int (maybe frac (maybe exp End))
Rest Zero = maybe frac (maybe exp End)
Rest Integer = Many digit (maybe frac (maybe exp End))
Rest Point = some digit (maybe exp End)
Rest Fraction = Many digit (maybe exp End)
Rest Letter = maybe (one sign) (some digit End)
Rest Sign = some digit End
Rest Exponent = Many digit End

abbrev RestIf : Option Part → Lang
RestIf None bs = ⊥
RestIf (Some q) bs = Rest q bs

-- what may come begins with a byte of a part that may follow
forth_to : (p q : Part) (b : ℕ) (bs : List ℕ) → number_part p (class_of b) ≡ Some q → Rest q bs → RestIf (number_part p (class_of b)) bs
forth_to p q b bs e r = subst (λ o. RestIf o bs) (sym e) r

forth : (p : Part) (b : ℕ) (bs : List ℕ) → Rest p (b ∷ bs) → RestIf (number_part p (class_of b)) bs
forth Minus b bs (inl r) = forth_to Minus Zero b bs (grind (arith, nat_tests)) r.1
forth Minus b bs (inr r) = forth_to Minus Integer b bs (grind (arith, nat_tests)) r.1
forth Zero b bs (inl r) = forth_to Zero Point b bs (grind (arith, nat_tests)) r.1
forth Zero b bs (inr (inl r)) = forth_to Zero Letter b bs (grind (arith, nat_tests)) r.1
forth Zero b bs (inr (inr r)) = absurd r
forth Integer b bs (more h r) = forth_to Integer Integer b bs (grind (arith, nat_tests)) r
forth Integer b bs (none (inl r)) = forth_to Integer Point b bs (grind (arith, nat_tests)) r.1
forth Integer b bs (none (inr (inl r))) = forth_to Integer Letter b bs (grind (arith, nat_tests)) r.1
forth Integer b bs (none (inr (inr r))) = absurd r
forth Point b bs r = forth_to Point Fraction b bs (grind (arith, nat_tests)) r.1
forth Fraction b bs (more h r) = forth_to Fraction Fraction b bs (grind (arith, nat_tests)) r
forth Fraction b bs (none (inl r)) = forth_to Fraction Letter b bs (grind (arith, nat_tests)) r.1
forth Fraction b bs (none (inr r)) = absurd r
forth Letter b bs (inl r) = forth_to Letter Sign b bs (grind (arith, nat_tests)) r.1
forth Letter b bs (inr r) = forth_to Letter Exponent b bs (grind (arith, nat_tests)) r.1
forth Sign b bs r = forth_to Sign Exponent b bs (grind (arith, nat_tests)) r.1
forth Exponent b bs (more h r) = forth_to Exponent Exponent b bs (grind (arith, nat_tests)) r
forth Exponent b bs (none r) = absurd r

-- a byte of a part that may follow, and what may come behind it, is what may come
back_to : {X : Type 0} {s : Bool} (t : Bool) (q : Part) (o : Option Part) (bs : List ℕ) → t ≡ s → (s ≡ true → Rest q bs → X) → (RestIf o bs → X) → RestIf (to t q o) bs → X
back_to true q o bs e yes-so other r = yes-so (sym e) r
back_to false q o bs e yes-so other r = other r

back : (p : Part) (b : ℕ) (bs : List ℕ) → RestIf (number_part p (class_of b)) bs → Rest p (b ∷ bs)
back Minus b bs =
    back_to (is ZeroByte (class_of b)) Zero (to (is DigitByte (class_of b)) Integer None) bs (zero_class b) (λ h r. inl (h, r))
    (back_to (is DigitByte (class_of b)) Integer None bs (digit_1_9_class b) (λ h r. inr (h, r)) absurd)
back Zero b bs =
    back_to (is PointByte (class_of b)) Point (to (is ExponentByte (class_of b)) Letter None) bs (point_class b) (λ h r. inl (h, r))
    (back_to (is ExponentByte (class_of b)) Letter None bs (e_class b) (λ h r. inr (inl (h, r))) absurd)
back Integer b bs =
    back_to (digits (class_of b)) Integer (number_part Zero (class_of b)) bs (digit_class b) (λ h r. more h r)
    (back_to (is PointByte (class_of b)) Point (to (is ExponentByte (class_of b)) Letter None) bs (point_class b) (λ h r. none (inl (h, r)))
    (back_to (is ExponentByte (class_of b)) Letter None bs (e_class b) (λ h r. none (inr (inl (h, r)))) absurd))
back Point b bs = back_to (digits (class_of b)) Fraction None bs (digit_class b) (λ h r. (h, r)) absurd
back Fraction b bs =
    back_to (digits (class_of b)) Fraction (to (is ExponentByte (class_of b)) Letter None) bs (digit_class b) (λ h r. more h r)
    (back_to (is ExponentByte (class_of b)) Letter None bs (e_class b) (λ h r. none (inl (h, r))) absurd)
back Letter b bs =
    back_to (is MinusByte (class_of b) || is PlusByte (class_of b)) Sign (to (digits (class_of b)) Exponent None) bs (sign_class b) (λ h r. inl (h, r))
    (back_to (digits (class_of b)) Exponent None bs (digit_class b) (λ h r. inr (h, r)) absurd)
back Sign b bs = back_to (digits (class_of b)) Exponent None bs (digit_class b) (λ h r. (h, r)) absurd
back Exponent b bs = back_to (digits (class_of b)) Exponent None bs (digit_class b) (λ h r. more h r) absurd

-- nothing more may come exactly behind a part that ends a number
ends_sound : (p : Part) → number_whole p ≡ true → Rest p []
ends_sound Minus h = absurd (false≢true h)
ends_sound Zero h = inr (inr tt)
ends_sound Integer h = none (inr (inr tt))
ends_sound Point h = absurd (false≢true h)
ends_sound Fraction h = none (inr tt)
ends_sound Letter h = absurd (false≢true h)
ends_sound Sign h = absurd (false≢true h)
ends_sound Exponent h = none tt

ends_complete : (p : Part) → Rest p [] → number_whole p ≡ true
ends_complete Minus (inl r) = absurd r
ends_complete Minus (inr r) = absurd r
ends_complete Zero r = refl
ends_complete Integer r = refl
ends_complete Point r = absurd r
ends_complete Fraction r = refl
ends_complete Letter (inl r) = absurd r
ends_complete Letter (inr r) = absurd r
ends_complete Sign r = absurd r
ends_complete Exponent r = refl

-- the rules let a number go on with these bytes exactly where they may come
abbrev Spells : Option Part → Word → List ℕ → Bool
Spells o v bs = spelled_turn (λ j. spelled_on json_rules j v bs) (none_left bs) (number_turn o)

goes_sound : (o : Option Part) (v : Word) (bs : List ℕ) → ((q : Part) → spelled_on json_rules (Number q) v bs ≡ true → Rest q bs) → Spells o v bs ≡ true → RestIf o bs
goes_sound None v bs f h = absurd (false≢true h)
goes_sound (Some q) v bs f h = f q h

pub number_sound : (p : Part) (w : Word) (bs : List ℕ) → spelled_on json_rules (Number p) w bs ≡ true → Rest p bs
number_sound p w [] h = ends_sound p h
number_sound p w (b ∷ bs) h = back p b bs (goes_sound (number_part p (class_of b)) (w ++ b ∷ []) bs (λ q. number_sound q (w ++ b ∷ []) bs) h)

goes_complete : (o : Option Part) (v : Word) (bs : List ℕ) → ((q : Part) → Rest q bs → spelled_on json_rules (Number q) v bs ≡ true) → RestIf o bs → Spells o v bs ≡ true
goes_complete None v bs f r = absurd r
goes_complete (Some q) v bs f r = f q r

pub number_complete : (p : Part) (w : Word) (bs : List ℕ) → Rest p bs → spelled_on json_rules (Number p) w bs ≡ true
number_complete p w [] r = ends_complete p r
number_complete p w (b ∷ bs) r = goes_complete (number_part p (class_of b)) (w ++ b ∷ []) bs (λ q. number_complete q (w ++ b ∷ []) bs) (forth p b bs r)
