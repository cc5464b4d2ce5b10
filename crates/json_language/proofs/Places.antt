-- Places: what a word does there, checked case by case, and how a document can be finished from each.
use Rattle.std.proofs.Common.{◌≡◌, ℕ, zero, suc, Bool, true, false, not, ◌&&◌, ◌||◌, List, [], ◌∷◌, Some, None, Option, refl, ap, subst, inr, arith}
use Rattle.std.proofs.lemmas.Bool.{false≢true, and_parts, cond_both, or_right}
use Rattle.grammar.specs.Meaning.{Word}
use Rattle.rules.specs.declared.place.Bracket.{Bracket}
use Rattle.rules.specs.declared.place.Bracket.TheVariants.{Array, Object, List as ListBracket}
use Rattle.rules.specs.declared.place.Expects.{Expects}
use Rattle.rules.specs.declared.place.Expects.TheVariants.{First, Next, Colon, Value, After}
use Rattle.rules.specs.declared.place.Move.{Move}
use Rattle.rules.specs.declared.place.Move.TheVariants.{Within, Opens, Closes}
use Rattle.rules.specs.Rules.{Place, loose, innermost, without_innermost, is_some, moved, placed, moves_at}
use Rattle.rules.specs.Language.{parses}
use Rattle.rules.specs.Lawful.{fits_kind, Reached, at_first, one_on, AllSpelled, Closing, Apart, Ranged}
use Rattle.json_language.specs.Words.{Sort, begin_array, end_array, begin_object, end_object, value_separator, name_separator, string, number, literal, no_word, sort_of, kind_as, kind_of, blank, adjoins, delimits}
use Rattle.json_language.specs.Rules.{sort_moves, closing, sort_lead, json_rules}

-- a test passes at each element
abbrev every : {X : Type 0} → (X → Bool) → List X → Bool
every p [] = true
every p (x ∷ xs) = p x && every p xs

abbrev At : {X : Type 0} → (X → Bool) → List X → ℕ → Type 0
At p [] n = Unit {0}
At p (x ∷ xs) zero = p x ≡ true
At p (x ∷ xs) (suc n) = At p xs n

at : {X : Type 0} (p : X → Bool) (xs : List X) → every p xs ≡ true → (n : ℕ) → At p xs n
at p [] h n = tt
at p (x ∷ xs) h zero = (and_parts (p x) (every p xs) h).0
at p (x ∷ xs) h (suc n) = at p xs (and_parts (p x) (every p xs) h).1 n

-- at each sort, each place and each innermost bracket
abbrev all_sorts : List Sort
all_sorts = begin_array ∷ (end_array ∷ (begin_object ∷ (end_object ∷ (value_separator ∷ (name_separator ∷ (string ∷ (number ∷ (literal ∷ (no_word ∷ [])))))))))

each_sort : (p : Sort → Bool) → every p all_sorts ≡ true → (s : Sort) → p s ≡ true
each_sort p h begin_array = at p all_sorts h 0
each_sort p h end_array = at p all_sorts h 1
each_sort p h begin_object = at p all_sorts h 2
each_sort p h end_object = at p all_sorts h 3
each_sort p h value_separator = at p all_sorts h 4
each_sort p h name_separator = at p all_sorts h 5
each_sort p h string = at p all_sorts h 6
each_sort p h number = at p all_sorts h 7
each_sort p h literal = at p all_sorts h 8
each_sort p h no_word = at p all_sorts h 9

abbrev all_expects : List Expects
all_expects = First ∷ (Next ∷ (Colon ∷ (Value ∷ (After ∷ []))))

each_expects : (p : Expects → Bool) → every p all_expects ≡ true → (e : Expects) → p e ≡ true
each_expects p h First = at p all_expects h 0
each_expects p h Next = at p all_expects h 1
each_expects p h Colon = at p all_expects h 2
each_expects p h Value = at p all_expects h 3
each_expects p h After = at p all_expects h 4

abbrev all_inner : List (Option Bracket)
all_inner = None ∷ (Some Array ∷ (Some Object ∷ (Some ListBracket ∷ [])))

each_inner : (p : Option Bracket → Bool) → every p all_inner ≡ true → (k : Option Bracket) → p k ≡ true
each_inner p h None = at p all_inner h 0
each_inner p h (Some Array) = at p all_inner h 1
each_inner p h (Some Object) = at p all_inner h 2
each_inner p h (Some ListBracket) = at p all_inner h 3

abbrev everywhere : (Sort → Expects → Option Bracket → Bool) → Bool
everywhere p = every (λ s. every (λ e. every (p s e) all_inner) all_expects) all_sorts

checked : (p : Sort → Expects → Option Bracket → Bool) → everywhere p ≡ true → (s : Sort) (e : Expects) (k : Option Bracket) → p s e k ≡ true
checked p h s e k =
    each_inner (p s e) (each_expects (λ f. every (p s f) all_inner) (each_sort (λ t. every (λ f. every (p t f) all_inner) all_expects) h s) e) k

-- what a word may do: stay, where First and Next only stand in brackets; open a bracket of JSON; close one, if one is open
abbrev inner : Expects → Option Bracket → Bool
inner First k = is_some k
inner Next k = is_some k
inner Colon k = true
inner Value k = true
inner After k = true

abbrev of_json : Bracket → Bool
of_json Array = true
of_json Object = true
of_json ListBracket = false

abbrev sane_move : Option Bracket → Option Move → Bool
sane_move k None = true
sane_move k (Some (Within e)) = inner e k
sane_move k (Some (Opens j)) = of_json j
sane_move k (Some Closes) = is_some k

moves_sane : (s : Sort) (e : Expects) (k : Option Bracket) → sane_move k (sort_moves s e k) ≡ true
moves_sane = checked (λ s e k. sane_move k (sort_moves s e k)) refl

pub none_closed : (e : Expects) (s : Sort) → sort_moves s e None ≡ Some Closes → ⊥
none_closed e s h = false≢true (subst (λ o. sane_move None o ≡ true) h (moves_sane s e None))

-- what a word does shows in its kind
pub sort_shows : (s : Sort) (e : Expects) (k : Option Bracket) → fits_kind (kind_as s) (sort_moves s e k) ≡ true
sort_shows = checked (λ s e k. fits_kind (kind_as s) (sort_moves s e k)) refl

-- a number or a literal is a value
abbrev only_after : Option Move → Bool
only_after None = true
only_after (Some (Within First)) = false
only_after (Some (Within Next)) = false
only_after (Some (Within Colon)) = false
only_after (Some (Within Value)) = false
only_after (Some (Within After)) = true
only_after (Some (Opens k)) = false
only_after (Some Closes) = false

is_after : (m : Move) → only_after (Some m) ≡ true → m ≡ Within After
is_after (Within First) h = absurd (false≢true h)
is_after (Within Next) h = absurd (false≢true h)
is_after (Within Colon) h = absurd (false≢true h)
is_after (Within Value) h = absurd (false≢true h)
is_after (Within After) h = refl
is_after (Opens k) h = absurd (false≢true h)
is_after Closes h = absurd (false≢true h)

implied : (x y : Bool) → (not x || y) ≡ true → x ≡ true → y ≡ true
implied true y h e = h
implied false y h e = absurd (false≢true e)

pub loose_after : (s : Sort) (e : Expects) (k : Option Bracket) (m : Move) → loose (kind_as s) ≡ true → sort_moves s e k ≡ Some m → m ≡ Within After
loose_after s e k m l h =
    is_after m (subst (λ o. only_after o ≡ true) h
    (implied (loose (kind_as s)) (only_after (sort_moves s e k)) (checked (λ t f j. not (loose (kind_as t)) || only_after (sort_moves t f j)) refl s e k) l))

-- a string, a number and a literal open and close no bracket
abbrev stays_within : Option Move → Bool
stays_within None = true
stays_within (Some (Within e)) = true
stays_within (Some (Opens k)) = false
stays_within (Some Closes) = false

is_within : (m : Move) → stays_within (Some m) ≡ true → (e : Expects) × (m ≡ Within e)
is_within (Within e) h = (e, refl)
is_within (Opens k) h = absurd (false≢true h)
is_within Closes h = absurd (false≢true h)

pub string_within : (e : Expects) (k : Option Bracket) (m : Move) → sort_moves string e k ≡ Some m → (x : Expects) × (m ≡ Within x)
string_within e k m h =
    let all = each_expects (λ f. every (λ j. stays_within (sort_moves string f j)) all_inner) refl in
    is_within m (subst (λ o. stays_within o ≡ true) h (each_inner (λ j. stays_within (sort_moves string e j)) (all e) k))

-- behind a value only such words come as may stand right behind a number or a literal
after_adjoins : (s : Sort) (k : Option Bracket) (n : Move) → sort_moves s After k ≡ Some n → adjoins s ≡ true
after_adjoins s k n h =
    implied (is_some (sort_moves s After k)) (adjoins s) (checked (λ t f j. not (is_some (sort_moves t After j)) || adjoins t) refl s After k) (ap is_some h)

lead_apart : (s : Sort) (d : Bool) → d ≡ true → Apart (sort_lead After s) d
lead_apart s d h = cond_both (closing s) _ None (λ l. Apart l d) (λ _. inr h) (λ _. h)

pub stays_apart : (p : Place) (b c : ℕ) (m n : Move) → loose (kind_of b) ≡ true → moves_at json_rules p b ≡ Some m → moves_at json_rules (moved m p.brackets) c ≡ Some n
    → Apart (json_rules.lead (moved m p.brackets).expects c) (delimits c)
stays_apart p b c m n l h g =
    let e : m ≡ Within After = loose_after (sort_of b) p.expects (innermost p.brackets) m l h in
    let g' : moves_at json_rules (moved (Within After) p.brackets) c ≡ Some n = subst (λ x. moves_at json_rules (moved x p.brackets) c ≡ Some n) e g in
    rw e (lead_apart (sort_of c) (delimits c) (or_right (blank c) (adjoins (sort_of c)) (after_adjoins (sort_of c) (innermost p.brackets) n g')))

-- the Breaks are in range
pub leads_ranged : (e : Expects) (s : Sort) → Ranged (sort_lead e s)
leads_ranged First s = cond_both (closing s) None _ Ranged (λ _. tt) (λ _. omega arith)
leads_ranged Next s = omega arith
leads_ranged Colon s = tt
leads_ranged Value s = tt
leads_ranged After s = cond_both (closing s) _ None Ranged (λ _. omega arith) (λ _. tt)

-- a place that is reached
abbrev OfJson : List Bracket → Type 0
OfJson [] = Unit {0}
OfJson (k ∷ ks) = (of_json k ≡ true) × OfJson ks

abbrev Sane : Place → Type 0
Sane p = (inner p.expects (innermost p.brackets) ≡ true) × OfJson p.brackets

outer_of_json : (ks : List Bracket) → OfJson ks → OfJson (without_innermost ks)
outer_of_json [] h = tt
outer_of_json (k ∷ ks) h = h.1

sane_placed : (o : Option Move) (p : Place) → sane_move (innermost p.brackets) o ≡ true → Sane p → Sane (placed o p)
sane_placed None p h s = s
sane_placed (Some (Within e)) p h s = (h, s.1)
sane_placed (Some (Opens k)) p h s = (refl, (h, s.1))
sane_placed (Some Closes) p h s = (refl, outer_of_json p.brackets s.1)

pub reached_sane : (p : Place) → Reached json_rules p → Sane p
reached_sane p at_first = (refl, tt)
reached_sane p (one_on q x b g a e) = rw e (sane_placed (moves_at json_rules q b) q (moves_sane (sort_of b) q.expects (innermost q.brackets)) (reached_sane q g))

-- a document is finished by what is missing of a member, and the brackets that are open
abbrev closers : List Bracket → List Word
closers [] = []
closers (Array ∷ ks) = (0x5D ∷ []) ∷ closers ks
closers (Object ∷ ks) = (0x7D ∷ []) ∷ closers ks
closers (ListBracket ∷ ks) = []

closers_good : (ks : List Bracket) → AllSpelled json_rules (closers ks)
closers_good [] = tt
closers_good (Array ∷ ks) = (refl, closers_good ks)
closers_good (Object ∷ ks) = (refl, closers_good ks)
closers_good (ListBracket ∷ ks) = tt

abbrev pub place : Expects → List Bracket → Place
place e ks = record { expects = e; brackets = ks }

closers_fit : (ks : List Bracket) → OfJson ks → parses json_rules (place After ks) (closers ks) ≡ true
closers_fit [] h = refl
closers_fit (Array ∷ ks) h = closers_fit ks h.1
closers_fit (Object ∷ ks) h = closers_fit ks h.1
closers_fit (ListBracket ∷ ks) h = absurd (false≢true h.0)

-- 0, a colon, an empty string
abbrev a_zero : Word
a_zero = 0x30 ∷ []

abbrev a_colon : Word
a_colon = 0x3A ∷ []

abbrev an_empty_string : Word
an_empty_string = 0x22 ∷ (0x22 ∷ [])

close : (e : Expects) (ks : List Bracket) → Sane (place e ks) → Closing json_rules (place e ks)
close First [] s = absurd (false≢true s.0)
close First (Array ∷ ks) s = record { closing_words = closers (Array ∷ ks); good = closers_good (Array ∷ ks); fits = closers_fit (Array ∷ ks) s.1 }
close First (Object ∷ ks) s = record { closing_words = closers (Object ∷ ks); good = closers_good (Object ∷ ks); fits = closers_fit (Object ∷ ks) s.1 }
close First (ListBracket ∷ ks) s = absurd (false≢true s.1.0)
close Next [] s = absurd (false≢true s.0)
close Next (Array ∷ ks) s = record { closing_words = a_zero ∷ closers (Array ∷ ks); good = (refl, closers_good (Array ∷ ks)); fits = closers_fit (Array ∷ ks) s.1 }
close Next (Object ∷ ks) s = record {
  closing_words = an_empty_string ∷ (a_colon ∷ (a_zero ∷ closers (Object ∷ ks)));
  good = (refl, (refl, (refl, closers_good (Object ∷ ks))));
  fits = closers_fit (Object ∷ ks) s.1;
}
close Next (ListBracket ∷ ks) s = absurd (false≢true s.1.0)
close Colon ks s = record { closing_words = a_colon ∷ (a_zero ∷ closers ks); good = (refl, (refl, closers_good ks)); fits = closers_fit ks s.1 }
close Value ks s = record { closing_words = a_zero ∷ closers ks; good = (refl, closers_good ks); fits = closers_fit ks s.1 }
close After ks s = record { closing_words = closers ks; good = closers_good ks; fits = closers_fit ks s.1 }

pub place_closes : (p : Place) → Sane p → Closing json_rules p
place_closes p s = close p.expects p.brackets s
