-- Words under way: what is known of their bytes, and how they can be finished.
use Rattle.std.proofs.Common.{◌≡◌, ℕ, true, false, List, [], ◌∷◌, ◌++◌, length, Some, None, Option, sym, refl, ap, ◌∙◌, subst, ap₂, append_assoc, arith}
use Rattle.std.proofs.lemmas.List.{append-nil}
use Rattle.std.proofs.lemmas.Bool.{false≢true, cond_both}
use Rattle.std.proofs.lemmas.Bool.Decides.{nat_tests}
use Rattle.grammar.specs.Meaning.{Word}
use Rattle.rules.specs.declared.word.Part.{Part}
use Rattle.rules.specs.declared.word.Part.TheVariants.{Minus, Zero, Integer, Point, Fraction, Letter, Sign, Exponent}
use Rattle.rules.specs.declared.word.Inside.{Inside}
use Rattle.rules.specs.declared.word.Inside.TheVariants.{Quoted, Number, Literal, Atom}
use Rattle.rules.specs.declared.word.Begin.{Begin}
use Rattle.rules.specs.declared.word.Begin.TheVariants.{Blank, Sole, Starts, Never as NeverBegins}
use Rattle.rules.specs.declared.word.Turn.{Turn}
use Rattle.rules.specs.declared.word.Turn.TheVariants.{Stays, Closes, Never}
use Rattle.rules.specs.Rules.{loose}
use Rattle.rules.specs.Language.{spelled_on}
use Rattle.rules.specs.Lawful.{Begun, first_byte, one_more}
use Rattle.json_language.specs.Classes.{class_of}
use Rattle.json_language.specs.Words.{Sort, begin_array, end_array, begin_object, end_object, value_separator, name_separator, string, number, literal, no_word, sort_of, first_sort, blank, kind_of, StringRest, quotation_mark, escape, unicode}
use Rattle.rules.specs.Escapes.{escape_of}
use Rattle.json_language.specs.Rules.{number_part, number_turn, literal_goes_on, string_turn, json_turns, json_whole, json_rules}
use Rattle.json_language.proofs.Bytes.{begin_as, begins_by_sort}
use Rattle.json_language.proofs.Strings.{Escape, no_escape, backslash, u, u_1, u_2, u_3, escape_of_end, Turned, closed, longer, done, never, turned, string_spells}
use Rattle.json_language.proofs.Literals.{BeginsLiteral, goes_literal, literal_complete}

-- the word ends in an escape under way of n bytes
abbrev EndsIn : ℕ → Word → Type 0
EndsIn n w = (v : Word) × (e : List ℕ) × Escape e × (w ≡ v ++ e) × (n ≡ length e)

-- a word under way has a first byte of its sort; a string ends in its escape; a literal begins one of the three
abbrev pub Known : Inside → Word → Type 0
Known (Quoted n) w = (first_sort w ≡ string) × EndsIn n w
Known (Number p) w = first_sort w ≡ number
Known Literal w = (first_sort w ≡ literal) × BeginsLiteral w
Known Atom w = ⊥

-- at its first byte
abbrev Fresh : Begin → ℕ → Type 0
Fresh Blank b = Unit {0}
Fresh Sole b = Unit {0}
Fresh (Starts i) b = Known i (b ∷ [])
Fresh NeverBegins b = Unit {0}

fresh : (s : Sort) (b : ℕ) → sort_of b ≡ s → Fresh (begin_as s b) b
fresh begin_array b e = tt
fresh end_array b e = tt
fresh begin_object b e = tt
fresh end_object b e = tt
fresh value_separator b e = tt
fresh name_separator b e = tt
fresh string b e = (e, (b ∷ [], [], no_escape, refl, refl))
fresh number b e = e
fresh literal b e = (e, (goes_literal [] b).0 (grind (arith, nat_tests)))
fresh no_word b e = cond_both (blank b) Blank NeverBegins (λ t. Fresh t b) (λ _. tt) (λ _. tt)

-- at each byte more
abbrev Kept : Turn → Word → Type 0
Kept (Stays i) w = Known i w
Kept Closes w = Unit {0}
Kept Never w = Unit {0}

same_first : (s : Sort) (w : Word) (b : ℕ) → first_sort w ≡ s → (no_word ≡ s → ⊥) → first_sort (w ++ b ∷ []) ≡ s
same_first s [] b e other = absurd (other e)
same_first s (c ∷ w) b e other = e

kept_string : (w v e : List ℕ) (b : ℕ) → first_sort (w ++ b ∷ []) ≡ string → w ≡ v ++ e → (t : Turn) → Turned e b t → Kept t (w ++ b ∷ [])
kept_string w v e b s q t (closed d) = tt
kept_string w v e b s q t (longer x) = (s, (v, e ++ b ∷ [], x, ap (λ (x : List ℕ). x ++ b ∷ []) q ∙ append_assoc v e (b ∷ []), refl))
kept_string w v e b s q t (done make unmake) = (s, (w ++ b ∷ [], [], no_escape, sym (append-nil (w ++ b ∷ [])), refl))
kept_string w v e b s q t (never n) = tt

kept_number : (o : Option Part) (w : Word) → first_sort w ≡ number → Kept (number_turn o) w
kept_number None w s = tt
kept_number (Some p) w s = s

kept : (i : Inside) (w : Word) (b : ℕ) → Known i w → Kept (json_turns i w b) (w ++ b ∷ [])
kept (Quoted n) w b (s, (v, e, x, q, m)) =
    rw (ap₂ escape_of m q ∙ escape_of_end v e) (kept_string w v e b (same_first string w b s (λ h. grind arith)) q (string_turn e b) (turned e b x))
kept (Number p) w b s = kept_number (number_part p (class_of b)) (w ++ b ∷ []) (same_first number w b s (λ h. grind arith))
kept Literal w b (s, h) =
    cond_both (literal_goes_on w b) (Stays Literal) Never (λ t. Kept t (w ++ b ∷ [])) (λ g. (same_first literal w b s (λ h. grind arith), (goes_literal w b).0 g)) (λ _. tt)
kept Atom w b k = absurd k

pub known : (i : Inside) (w : Word) → Begun json_rules i w → Known i w
known i w (first_byte j b e) = subst (λ t. Fresh t b) e (rw (begins_by_sort b) (fresh (sort_of b) b refl))
known i w (one_more j k v x b g e q) = rw q (subst (λ t. Kept t (v ++ b ∷ [])) e (kept j v b (known j v g)))

-- only strings close, and only numbers and literals end without a last byte of their own
abbrev Open : Turn → Type 0
Open (Stays i) = Unit {0}
Open Closes = ⊥
Open Never = Unit {0}

number_stays_open : (o : Option Part) → Open (number_turn o)
number_stays_open None = tt
number_stays_open (Some p) = tt

pub closing_not_loose : (i : Inside) (b c : ℕ) (w : Word) → Known i (b ∷ w) → json_turns i (b ∷ w) c ≡ Closes → loose (kind_of b) ≡ false
closing_not_loose (Quoted n) b c w (s, k) h = rw s
closing_not_loose (Number p) b c w k h = absurd (subst Open h (number_stays_open (number_part p (class_of c))))
closing_not_loose Literal b c w k h =
    absurd (subst Open h (cond_both (literal_goes_on (b ∷ w) c) (Stays Literal) Never Open (λ _. tt) (λ _. tt)))
closing_not_loose Atom b c w k h = absurd k

pub whole_loose : (i : Inside) (b : ℕ) (w : Word) → Known i (b ∷ w) → json_whole i (b ∷ w) ≡ true → loose (kind_of b) ≡ true
whole_loose (Quoted n) b w k h = absurd (false≢true h)
whole_loose (Number p) b w s h = rw s
whole_loose Literal b w (s, k) h = rw s
whole_loose Atom b w k h = absurd k

-- how a number, a string and a literal can be finished
abbrev pub Finish : Inside → Word → Type 0
Finish i w = (rest : List ℕ) × (spelled_on json_rules i w rest ≡ true)

finish_number : (p : Part) (w : Word) → Finish (Number p) w
finish_number Minus w = (0x30 ∷ [], refl)
finish_number Zero w = ([], refl)
finish_number Integer w = ([], refl)
finish_number Point w = (0x30 ∷ [], refl)
finish_number Fraction w = ([], refl)
finish_number Letter w = (0x30 ∷ [], refl)
finish_number Sign w = (0x30 ∷ [], refl)
finish_number Exponent w = ([], refl)

finish_escape : (e : List ℕ) → Escape e → (rest : List ℕ) × StringRest (e ++ rest)
finish_escape e no_escape = (0x22 ∷ [], quotation_mark)
finish_escape e backslash = (0x6E ∷ (0x22 ∷ []), escape 0x6E refl quotation_mark)
finish_escape e u = (0x30 ∷ (0x30 ∷ (0x30 ∷ (0x30 ∷ (0x22 ∷ [])))), unicode 0x30 0x30 0x30 0x30 refl refl refl refl quotation_mark)
finish_escape e (u_1 a ha) = (0x30 ∷ (0x30 ∷ (0x30 ∷ (0x22 ∷ []))), unicode a 0x30 0x30 0x30 ha refl refl refl quotation_mark)
finish_escape e (u_2 a b ha hb) = (0x30 ∷ (0x30 ∷ (0x22 ∷ [])), unicode a b 0x30 0x30 ha hb refl refl quotation_mark)
finish_escape e (u_3 a b c ha hb hc) = (0x30 ∷ (0x22 ∷ []), unicode a b c 0x30 ha hb hc refl quotation_mark)

pub finish : (i : Inside) (w : Word) → Known i w → Finish i w
finish (Quoted n) w (s, (v, e, x, q, m)) = let f = finish_escape e x in (f.0, rw (q, m) ((string_spells f.0 v e x).1 f.1))
finish (Number p) w k = finish_number p w
finish Literal w (s, (v, h)) = (v, literal_complete w v h)
finish Atom w k = absurd k
