-- Words are those of a value exactly where the rules let them stand in that order.
use Rattle.std.proofs.Common.{◌≡◌, Bool, true, ◌&&◌, leb, List, [], ◌∷◌, length, Some, None, Option, sym, refl, ap, ◌∙◌, subst}
use lib.Dec.{leb-suc-zero}
use Rattle.std.proofs.lemmas.Bool.{both_ways, false≢true}
use Rattle.grammar.specs.Meaning.{Word}
use Rattle.rules.specs.declared.place.Bracket.{Bracket}
use Rattle.rules.specs.declared.place.Bracket.TheVariants.{Array, Object, List as ListBracket}
use Rattle.rules.specs.declared.place.Expects.{Expects}
use Rattle.rules.specs.declared.place.Expects.TheVariants.{First, Next, Colon, Value as ValueNext, After}
use Rattle.rules.specs.declared.place.Move.{Move}
use Rattle.rules.specs.declared.place.Move.TheVariants.{Within, Opens}
use Rattle.rules.specs.Rules.{Place, innermost, is_some, moved, placed}
use Rattle.rules.specs.Machine.{no_brackets}
use Rattle.rules.specs.Language.{parses, SentenceBy}
use Rattle.json_language.specs.Words.{Sort, begin_array, end_array, begin_object, end_object, value_separator, name_separator, string, number, literal, no_word, sort_of}
use Rattle.json_language.specs.Language.{Value, a_string, a_number, a_literal, array, object, Items, no_items, item, Members, no_members, member, value, first_items, later_items, first_members, later_members, sorts, Sentence}
use Rattle.json_language.proofs.Places.{place}
use Rattle.json_language.specs.Rules.{sort_moves, as_value, as_string, as_comma, as_colon, as_closing, closes, json_rules}

-- words of these sorts may stand in this order, from this place to the end of the document
abbrev fit : Place → List Sort → Bool
fit p [] = no_brackets json_rules p
fit p (s ∷ ss) =
    let m = sort_moves s p.expects (innermost p.brackets) in
    is_some m && fit (placed m p) ss

fit_words : (p : Place) (ws : List Word) → parses json_rules p ws ≡ fit p (sorts ws)
fit_words p [] = refl
fit_words p ([] ∷ ws) = refl
fit_words p ((b ∷ w) ∷ ws) =
    let m = sort_moves (sort_of b) p.expects (innermost p.brackets) in
    ap (λ (x : Bool). is_some m && x) (fit_words (placed m p) ws)

-- a place where a value may stand
data Takes : Expects → List Bracket → Type 0 where
  at_value : (ks : List Bracket) → Takes ValueNext ks
  at_first : (ks : List Bracket) → Takes First (Array ∷ ks)
  at_next : (ks : List Bracket) → Takes Next (Array ∷ ks)

-- a word that may begin a value, and what it does
data Starts : Sort → Move → Type 0 where
  starts_string : Starts string (Within After)
  starts_number : Starts number (Within After)
  starts_literal : Starts literal (Within After)
  starts_array : Starts begin_array (Opens Array)
  starts_object : Starts begin_object (Opens Object)

takes_value : (e : Expects) (ks : List Bracket) (m : Move) → Takes e ks → as_value e (innermost ks) m ≡ Some m
takes_value e ks m (at_value js) = refl
takes_value e ks m (at_first js) = refl
takes_value e ks m (at_next js) = refl

takes_string : (e : Expects) (ks : List Bracket) → Takes e ks → as_string e (innermost ks) ≡ Some (Within After)
takes_string e ks (at_value js) = refl
takes_string e ks (at_first js) = refl
takes_string e ks (at_next js) = refl

takes : (e : Expects) (ks : List Bracket) (s : Sort) (m : Move) → Takes e ks → Starts s m → sort_moves s e (innermost ks) ≡ Some m
takes e ks s m t starts_string = takes_string e ks t
takes e ks s m t starts_number = takes_value e ks m t
takes e ks s m t starts_literal = takes_value e ks m t
takes e ks s m t starts_array = takes_value e ks m t
takes e ks s m t starts_object = takes_value e ks m t

goes : (e : Expects) (ks : List Bracket) (s : Sort) (m : Move) (ss : List Sort) → Takes e ks → Starts s m → fit (place e ks) (s ∷ ss) ≡ fit (moved m ks) ss
goes e ks s m ss t b = rw (takes e ks s m t b)

-- the words of a value lead from a place that takes it to the place behind it
mutual
  fit_value : (v : Value) (e : Expects) (ks : List Bracket) (ss : List Sort) → Takes e ks → fit (place e ks) (value v ss) ≡ fit (place After ks) ss
  fit_value a_string e ks ss t = goes e ks string (Within After) ss t starts_string
  fit_value a_number e ks ss t = goes e ks number (Within After) ss t starts_number
  fit_value a_literal e ks ss t = goes e ks literal (Within After) ss t starts_literal
  fit_value (array vs) e ks ss t = goes e ks begin_array (Opens Array) (first_items vs ss) t starts_array ∙ fit_first_items vs ks ss
  fit_value (object ms) e ks ss t = goes e ks begin_object (Opens Object) (first_members ms ss) t starts_object ∙ fit_first_members ms ks ss

  fit_first_items : (vs : Items) (ks : List Bracket) (ss : List Sort) → fit (place First (Array ∷ ks)) (first_items vs ss) ≡ fit (place After ks) ss
  fit_first_items no_items ks ss = refl
  fit_first_items (item v vs) ks ss = fit_value v First (Array ∷ ks) (later_items vs ss) (at_first ks) ∙ fit_later_items vs ks ss

  fit_later_items : (vs : Items) (ks : List Bracket) (ss : List Sort) → fit (place After (Array ∷ ks)) (later_items vs ss) ≡ fit (place After ks) ss
  fit_later_items no_items ks ss = refl
  fit_later_items (item v vs) ks ss = fit_value v Next (Array ∷ ks) (later_items vs ss) (at_next ks) ∙ fit_later_items vs ks ss

  fit_first_members : (ms : Members) (ks : List Bracket) (ss : List Sort) → fit (place First (Object ∷ ks)) (first_members ms ss) ≡ fit (place After ks) ss
  fit_first_members no_members ks ss = refl
  fit_first_members (member v ms) ks ss = fit_value v ValueNext (Object ∷ ks) (later_members ms ss) (at_value (Object ∷ ks)) ∙ fit_later_members ms ks ss

  fit_later_members : (ms : Members) (ks : List Bracket) (ss : List Sort) → fit (place After (Object ∷ ks)) (later_members ms ss) ≡ fit (place After ks) ss
  fit_later_members no_members ks ss = refl
  fit_later_members (member v ms) ks ss = fit_value v ValueNext (Object ∷ ks) (later_members ms ss) (at_value (Object ∷ ks)) ∙ fit_later_members ms ks ss

pub sentence_complete : (ws : List Word) → Sentence ws → SentenceBy json_rules ws
sentence_complete ws (v, e) = fit_words (place ValueNext []) ws ∙ (ap (fit (place ValueNext [])) e ∙ fit_value v ValueNext [] [] (at_value []))

-- One of a family of words and then what B says.
abbrev Of : {X : Type 0} → (X → List Sort → List Sort) → (List Sort → Type 0) → List Sort → Type 0
Of {X} f B ss = (x : X) × (rest : List Sort) × (ss ≡ f x rest) × B rest

-- a word more in front; two in a row made one
before : {X Y : Type 0} (s : Sort) (f : X → List Sort → List Sort) (g : Y → List Sort → List Sort) (c : X → Y) → ((x : X) (rest : List Sort) → s ∷ f x rest ≡ g (c x) rest)
    → (B : List Sort → Type 0) (ss : List Sort) → Of f B ss → Of g B (s ∷ ss)
before s f g c law B ss (x, rest, e, b) = (c x, rest, ap (λ (ts : List Sort). s ∷ ts) e ∙ law x rest, b)

joined : {X Y Z : Type 0} (f : X → List Sort → List Sort) (g : Y → List Sort → List Sort) (h : Z → List Sort → List Sort) (c : X → Y → Z)
    → ((x : X) (y : Y) (rest : List Sort) → f x (g y rest) ≡ h (c x y) rest) → (B : List Sort → Type 0) (ss : List Sort) → Of f (Of g B) ss → Of h B ss
joined f g h c law B ss (x, more, e, (y, rest, d, b)) = (c x y, rest, e ∙ (ap (f x) d ∙ law x y rest), b)

-- what may come behind a value in these brackets, up to the end of the document
abbrev Behind : List Bracket → List Sort → Type 0
Behind [] ss = ss ≡ []
Behind (Array ∷ ks) ss = Of later_items (Behind ks) ss
Behind (Object ∷ ks) ss = Of later_members (Behind ks) ss
Behind (ListBracket ∷ ks) ss = ⊥

-- a colon and a value; a name, a colon and a value
abbrev valued : Value → List Sort → List Sort
valued v ss = name_separator ∷ value v ss

abbrev named : Value → List Sort → List Sort
named v ss = string ∷ valued v ss

-- what may come from a place on
abbrev Fills : Expects → List Bracket → List Sort → Type 0
Fills First [] ss = ⊥
Fills First (Array ∷ ks) ss = Of first_items (Behind ks) ss
Fills First (Object ∷ ks) ss = Of first_members (Behind ks) ss
Fills First (ListBracket ∷ ks) ss = ⊥
Fills Next [] ss = ⊥
Fills Next (Array ∷ ks) ss = Of value (Of later_items (Behind ks)) ss
Fills Next (Object ∷ ks) ss = Of named (Of later_members (Behind ks)) ss
Fills Next (ListBracket ∷ ks) ss = ⊥
Fills Colon ks ss = Of valued (Behind ks) ss
Fills ValueNext ks ss = Of value (Behind ks) ss
Fills After ks ss = Behind ks ss

abbrev FillsAt : Place → List Sort → Type 0
FillsAt p ss = Fills p.expects p.brackets ss

abbrev Moves : Option Move → List Bracket → List Sort → Type 0
Moves None ks ss = ⊥
Moves (Some m) ks ss = FillsAt (moved m ks) ss

-- a word that begins a value, and what may come behind it, is a value and what may come behind that
begun : (s : Sort) (m : Move) (ks : List Bracket) (ss : List Sort) → Starts s m → FillsAt (moved m ks) ss → Of value (Behind ks) (s ∷ ss)
begun s m ks ss starts_string b = (a_string, ss, refl, b)
begun s m ks ss starts_number b = (a_number, ss, refl, b)
begun s m ks ss starts_literal b = (a_literal, ss, refl, b)
begun s m ks ss starts_array b = before begin_array first_items value array (λ vs rest. refl) (Behind ks) ss b
begun s m ks ss starts_object b = before begin_object first_members value object (λ ms rest. refl) (Behind ks) ss b

-- a value is an array's first item, and a member its object's first, with those behind it
items : (ks : List Bracket) (ss : List Sort) → Of value (Behind (Array ∷ ks)) ss → Of first_items (Behind ks) ss
items ks = joined value later_items first_items item (λ v vs rest. refl) (Behind ks)

members : (ks : List Bracket) (ss : List Sort) → Of named (Behind (Object ∷ ks)) ss → Of first_members (Behind ks) ss
members ks = joined named later_members first_members member (λ v ms rest. refl) (Behind ks)

a_value : (e : Expects) (ks : List Bracket) (s : Sort) (m : Move) (ss : List Sort) → Starts s m → Moves (as_value e (innermost ks) m) ks ss → Fills e ks (s ∷ ss)
a_value First [] s m ss b f = absurd f
a_value First (Array ∷ ks) s m ss b f = items ks (s ∷ ss) (begun s m (Array ∷ ks) ss b f)
a_value First (Object ∷ ks) s m ss b f = absurd f
a_value First (ListBracket ∷ ks) s m ss b f = absurd f
a_value Next [] s m ss b f = absurd f
a_value Next (Array ∷ ks) s m ss b f = begun s m (Array ∷ ks) ss b f
a_value Next (Object ∷ ks) s m ss b f = absurd f
a_value Next (ListBracket ∷ ks) s m ss b f = absurd f
a_value Colon ks s m ss b f = absurd f
a_value ValueNext ks s m ss b f = begun s m ks ss b f
a_value After ks s m ss b f = absurd f

-- a string is a name in an object, and a value elsewhere
a_name : (ks : List Bracket) (ss : List Sort) → Fills Colon ks ss → Of named (Behind ks) (string ∷ ss)
a_name ks ss = before string valued named (λ v. v) (λ v rest. refl) (Behind ks) ss

a_word_string : (e : Expects) (ks : List Bracket) (ss : List Sort) → Moves (as_string e (innermost ks)) ks ss → Fills e ks (string ∷ ss)
a_word_string First [] ss f = absurd f
a_word_string First (Array ∷ ks) ss f = items ks (string ∷ ss) (begun string (Within After) (Array ∷ ks) ss starts_string f)
a_word_string First (Object ∷ ks) ss f = members ks (string ∷ ss) (a_name (Object ∷ ks) ss f)
a_word_string First (ListBracket ∷ ks) ss f = absurd f
a_word_string Next [] ss f = absurd f
a_word_string Next (Array ∷ ks) ss f = begun string (Within After) (Array ∷ ks) ss starts_string f
a_word_string Next (Object ∷ ks) ss f = a_name (Object ∷ ks) ss f
a_word_string Next (ListBracket ∷ ks) ss f = absurd f
a_word_string Colon ks ss f = absurd f
a_word_string ValueNext ks ss f = begun string (Within After) ks ss starts_string f
a_word_string After ks ss f = absurd f

abbrev with_comma : (Value → List Sort → List Sort) → Value → List Sort → List Sort
with_comma f v ss = value_separator ∷ f v ss

after_comma : (f : Value → List Sort → List Sort) (B : List Sort → Type 0) (ss : List Sort) → Of f B ss → Of (with_comma f) B (value_separator ∷ ss)
after_comma f = before value_separator f (with_comma f) (λ v. v) (λ v rest. refl)

a_comma : (e : Expects) (ks : List Bracket) (ss : List Sort) → Moves (as_comma e (innermost ks)) ks ss → Fills e ks (value_separator ∷ ss)
a_comma First ks ss f = absurd f
a_comma Next ks ss f = absurd f
a_comma Colon ks ss f = absurd f
a_comma ValueNext ks ss f = absurd f
a_comma After [] ss f = absurd f
a_comma After (Array ∷ ks) ss f =
    joined (with_comma value) later_items later_items item (λ v vs rest. refl) (Behind ks) (value_separator ∷ ss) (after_comma value (Behind (Array ∷ ks)) ss f)
a_comma After (Object ∷ ks) ss f =
    joined (with_comma named) later_members later_members member (λ v ms rest. refl) (Behind ks) (value_separator ∷ ss) (after_comma named (Behind (Object ∷ ks)) ss f)
a_comma After (ListBracket ∷ ks) ss f = absurd f

a_colon : (e : Expects) (ks : List Bracket) (ss : List Sort) → Moves (as_colon e) ks ss → Fills e ks (name_separator ∷ ss)
a_colon First ks ss f = absurd f
a_colon Next ks ss f = absurd f
a_colon Colon ks ss f = before name_separator value valued (λ v. v) (λ v rest. refl) (Behind ks) ss f
a_colon ValueNext ks ss f = absurd f
a_colon After ks ss f = absurd f

-- a closing bracket closes the innermost bracket
closed : (k : Bracket) (ks : List Bracket) (ss : List Sort) → Moves (closes k (innermost ks)) ks ss → (js : List Bracket) × (k ∷ js ≡ ks) × Behind js ss
closed k [] ss f = absurd f
closed Array (Array ∷ ks) ss f = (ks, refl, f)
closed Array (Object ∷ ks) ss f = absurd f
closed Array (ListBracket ∷ ks) ss f = absurd f
closed Object (Array ∷ ks) ss f = absurd f
closed Object (Object ∷ ks) ss f = (ks, refl, f)
closed Object (ListBracket ∷ ks) ss f = absurd f
closed ListBracket (k ∷ ks) ss f = absurd f

a_closing : (k : Bracket) (s : Sort) (ss : List Sort) → ((js : List Bracket) → Behind js ss → Fills First (k ∷ js) (s ∷ ss)) → ((js : List Bracket) → Behind js ss → Behind (k ∷ js) (s ∷ ss))
    → (e : Expects) (ks : List Bracket) → Moves (as_closing k e (innermost ks)) ks ss → Fills e ks (s ∷ ss)
a_closing k s ss empty last First ks f = let (js, e, b) = closed k ks ss f in subst (λ (is : List Bracket). Fills First is (s ∷ ss)) e (empty js b)
a_closing k s ss empty last Next ks f = absurd f
a_closing k s ss empty last Colon ks f = absurd f
a_closing k s ss empty last ValueNext ks f = absurd f
a_closing k s ss empty last After ks f = let (js, e, b) = closed k ks ss f in subst (λ (is : List Bracket). Behind is (s ∷ ss)) e (last js b)

a_word : (s : Sort) (e : Expects) (ks : List Bracket) (ss : List Sort) → Moves (sort_moves s e (innermost ks)) ks ss → Fills e ks (s ∷ ss)
a_word begin_array e ks ss f = a_value e ks begin_array (Opens Array) ss starts_array f
a_word end_array e ks ss f = a_closing Array end_array ss (λ js b. (no_items, ss, refl, b)) (λ js b. (no_items, ss, refl, b)) e ks f
a_word begin_object e ks ss f = a_value e ks begin_object (Opens Object) ss starts_object f
a_word end_object e ks ss f = a_closing Object end_object ss (λ js b. (no_members, ss, refl, b)) (λ js b. (no_members, ss, refl, b)) e ks f
a_word value_separator e ks ss f = a_comma e ks ss f
a_word name_separator e ks ss f = a_colon e ks ss f
a_word string e ks ss f = a_word_string e ks ss f
a_word number e ks ss f = a_value e ks number (Within After) ss starts_number f
a_word literal e ks ss f = a_value e ks literal (Within After) ss starts_literal f
a_word no_word e ks ss f = absurd f

-- words that may stand in this order are what may come
at_end : (e : Expects) (ks : List Bracket) → fit (place e ks) [] ≡ true → Fills e ks []
at_end First ks h = absurd (false≢true h)
at_end Next ks h = absurd (false≢true h)
at_end Colon ks h = absurd (false≢true h)
at_end ValueNext ks h = absurd (false≢true h)
at_end After [] h = refl
at_end After (k ∷ ks) h = absurd (both_ways (leb (length (k ∷ ks)) 0) (leb-suc-zero (length ks)) h)

moves_on : (o : Option Move) (p : Place) (ss : List Sort) → ((q : Place) → fit q ss ≡ true → FillsAt q ss) → (is_some o && fit (placed o p) ss) ≡ true → Moves o p.brackets ss
moves_on None p ss on h = absurd (false≢true h)
moves_on (Some m) p ss on h = on (moved m p.brackets) h

fills : (ss : List Sort) (p : Place) → fit p ss ≡ true → FillsAt p ss
fills [] p h = at_end p.expects p.brackets h
fills (s ∷ ss) p h = a_word s p.expects p.brackets ss (moves_on (sort_moves s p.expects (innermost p.brackets)) p ss (fills ss) h)

pub sentence_sound : (ws : List Word) → SentenceBy json_rules ws → Sentence ws
sentence_sound ws h =
    let (v, rest, e, d) = fills (sorts ws) (place ValueNext []) (sym (fit_words (place ValueNext []) ws) ∙ h) in
    (v, e ∙ ap (value v) d)
