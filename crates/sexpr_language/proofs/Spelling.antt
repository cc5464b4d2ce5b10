-- The rules spell the words of the language.
use Rattle.std.proofs.Common.{◌≡◌, ℕ, ◌-◌, Bool, true, false, cond, ◌&&◌, eqb, leb, List, [], ◌∷◌, ◌++◌, length, Decides, sym, refl, ap, ◌∙◌, subst, arith}
use Rattle.std.proofs.lemmas.List.{drop_all, drop_at, length-append}
use Rattle.std.proofs.lemmas.Bool.{cond-true, eqb-true}
use Rattle.std.proofs.lemmas.Bool.Decides.{Decides-at, Decides-and}
use Rattle.grammar.specs.Meaning.{Word}
use Rattle.rules.specs.declared.word.Inside.{Inside}
use Rattle.rules.specs.declared.word.Inside.TheVariants.{Quoted, Atom as InAtom}
use Rattle.rules.specs.declared.word.Turn.{Turn}
use Rattle.rules.specs.declared.word.Turn.TheVariants.{Stays, Closes, Never}
use Rattle.rules.specs.Language.{none_left, spelled_turn, spelled_on, spelled_begin, spelled}
use Rattle.sexpr_language.specs.declared.class.Class.{Class}
use Rattle.sexpr_language.specs.declared.class.Class.TheVariants.{Control, Blank, Space, Quote, Open, Close, Backslash, Atom, Barred}
use Rattle.sexpr_language.specs.Classes.{class_of}
use Rattle.sexpr_language.specs.Language.{of_atom, plain, AllOfAtom, InString, closing_quote, plain_byte, escaped_byte, SpelledAs, Spelled}
use Rattle.rules.specs.Escapes.{escape_of}
use Rattle.sexpr_language.specs.Rules.{class_kind, class_begins, string_turns, sexpr_rules}
use Rattle.sexpr_language.proofs.Cases.{never}
use Rattle.sexpr_language.proofs.Bytes.{kind_by_class, in_atom, in_string, in_escape, starts_atom, atom_by_class}

-- what a byte and the bytes behind it do, once it is known which turn the byte takes
abbrev pub goes_on : Word → ℕ → List ℕ → Turn → Bool
goes_on w b bs t = spelled_turn (λ j. spelled_on sexpr_rules j (w ++ b ∷ []) bs) (none_left bs) t

-- the bytes of an atom
turn_test : (w : Word) (b : ℕ) (bs : List ℕ) (t : Bool) (j : Inside) → goes_on w b bs (cond t (Stays j) Never) ≡ (t && spelled_on sexpr_rules j (w ++ b ∷ []) bs)
turn_test w b bs true j = refl
turn_test w b bs false j = refl

pub atom_on : (w : Word) (bs : List ℕ) → Decides (spelled_on sexpr_rules InAtom w bs) (AllOfAtom bs)
atom_on w [] = (λ _. tt, λ _. refl)
atom_on w (b ∷ bs) =
    Decides-at _ _ (ap (goes_on w b bs) (in_atom b) ∙ turn_test w b bs (of_atom b) InAtom)
    (Decides-and (of_atom b) _ (λ e. e, λ e. e) (atom_on (w ++ b ∷ []) bs))

-- the escape under way behind a byte that is none, and behind a backslash
pub no_escape : (w : Word) → escape_of 0 w ≡ []
no_escape w = drop_all (length w - 0) w (omega arith)

pub one_escape : (w : Word) (b : ℕ) → escape_of 1 (w ++ b ∷ []) ≡ b ∷ []
one_escape w b = let l = length-append w (b ∷ []) in drop_at w (b ∷ []) (length (w ++ b ∷ []) - 1) (omega arith)

-- behind the bytes of an escape the next byte goes with it, and then the rest of the string
abbrev pub Rest : List ℕ → List ℕ → Type 0
Rest [] bs = InString bs
Rest (e ∷ es) [] = ⊥
Rest (e ∷ es) (b ∷ bs) = (leb 0x20 b ≡ true) × InString bs

-- what follows the opening quote of a string is spelled so
pub string_spelled : {bs : List ℕ} → InString bs → (n : ℕ) (w : Word) → escape_of n w ≡ [] → spelled_on sexpr_rules (Quoted n) w bs ≡ true
string_spelled closing_quote n w e = ap (λ x. goes_on w 0x22 [] (string_turns x Quote)) e
string_spelled (plain_byte b bs p s) n w e =
    ap (λ x. goes_on w b bs (string_turns x (class_of b))) e
    ∙ (ap (goes_on w b bs) (in_string b ∙ cond-true (plain b) _ _ p)
    ∙ string_spelled s 0 (w ++ b ∷ []) (no_escape (w ++ b ∷ [])))
string_spelled (escaped_byte b bs p s) n w e =
    ap (λ x. goes_on w 0x5C (b ∷ bs) (string_turns x Backslash)) e
    ∙ (ap (λ x. goes_on (w ++ 0x5C ∷ []) b bs (string_turns x (class_of b))) (one_escape w 0x5C)
    ∙ (ap (goes_on (w ++ 0x5C ∷ []) b bs) (in_escape b ∙ cond-true (leb 0x20 b) _ _ p)
    ∙ string_spelled s 0 ((w ++ 0x5C ∷ []) ++ b ∷ []) (no_escape ((w ++ 0x5C ∷ []) ++ b ∷ []))))

-- and what is spelled so follows an opening quote
closes_string : (bs : List ℕ) → none_left bs ≡ true → InString (0x22 ∷ bs)
closes_string [] h = closing_quote
closes_string (b ∷ bs) h = never h

escapes_byte : (bs : List ℕ) → Rest (0x5C ∷ []) bs → InString (0x5C ∷ bs)
escapes_byte [] r = absurd r
escapes_byte (b ∷ bs) r = escaped_byte b bs r.0 r.1

-- a byte and the bytes behind it, which are known from the turn that it takes
module _ (w : Word) (b : ℕ) (bs : List ℕ) (rest : (n : ℕ) (v : Word) → spelled_on sexpr_rules (Quoted n) v bs ≡ true → Rest (escape_of n v) bs) where
  plain_on : spelled_on sexpr_rules (Quoted 0) (w ++ b ∷ []) bs ≡ true → InString bs
  plain_on h = subst (λ es. Rest es bs) (no_escape (w ++ b ∷ [])) (rest 0 (w ++ b ∷ []) h)

  in_escape_on : (t : Bool) → leb 0x20 b ≡ t → goes_on w b bs (cond t (Stays (Quoted 0)) Never) ≡ true → (leb 0x20 b ≡ true) × InString bs
  in_escape_on true e h = (e, plain_on h)
  in_escape_on false e h = never h

  in_string_on : (p q s : Bool) → plain b ≡ p → eqb b 0x22 ≡ q → eqb b 0x5C ≡ s
      → goes_on w b bs (cond p (Stays (Quoted 0)) (cond q Closes (cond s (Stays (Quoted 1)) Never))) ≡ true → InString (b ∷ bs)
  in_string_on true q s ep eq es h = plain_byte b bs ep (plain_on h)
  in_string_on false true s ep eq es h = subst (λ x. InString (x ∷ bs)) (sym (eqb-true b 0x22 eq)) (closes_string bs h)
  in_string_on false false true ep eq es h =
      subst (λ x. InString (x ∷ bs)) (sym (eqb-true b 0x5C es))
      (escapes_byte bs (subst (λ x. Rest (x ∷ []) bs) (eqb-true b 0x5C es) (subst (λ x. Rest x bs) (one_escape w b) (rest 1 (w ++ b ∷ []) h))))
  in_string_on false false false ep eq es h = never h

  string_byte : (es : List ℕ) → goes_on w b bs (string_turns es (class_of b)) ≡ true → Rest es (b ∷ bs)
  string_byte [] h = in_string_on (plain b) (eqb b 0x22) (eqb b 0x5C) refl refl refl (sym (ap (goes_on w b bs) (in_string b)) ∙ h)
  string_byte (e ∷ es) h = in_escape_on (leb 0x20 b) refl (sym (ap (goes_on w b bs) (in_escape b)) ∙ h)

pub string_read : (bs : List ℕ) (n : ℕ) (w : Word) → spelled_on sexpr_rules (Quoted n) w bs ≡ true → Rest (escape_of n w) bs
string_read [] n w h = never h
string_read (b ∷ bs) n w h = string_byte w b bs (string_read bs) (escape_of n w) h

-- a parenthesis stands alone
alone : (bs : List ℕ) → Decides (none_left bs) (bs ≡ [])
alone [] = (λ _. refl, λ _. refl)
alone (b ∷ bs) = (λ h. never h, λ e. ap none_left e)

-- a word, by the class of its first byte
module _ (b : ℕ) (bs : List ℕ) where
  no_atom : false ≡ of_atom b → Decides false (AllOfAtom (b ∷ bs))
  no_atom e = (λ h. never h, λ a. e ∙ a.0)

  an_atom : true ≡ of_atom b → Decides (spelled_on sexpr_rules InAtom (b ∷ []) bs) (AllOfAtom (b ∷ bs))
  an_atom e = (λ h. (sym e, (atom_on (b ∷ []) bs).0 h), λ a. (atom_on (b ∷ []) bs).1 a.1)

  spelled_by_class : (c : Class) → starts_atom (class_begins c) ≡ of_atom b → Decides (spelled_begin sexpr_rules b bs (class_begins c)) (SpelledAs (class_kind c) b bs)
  spelled_by_class Control e = no_atom e
  spelled_by_class Blank e = no_atom e
  spelled_by_class Space e = no_atom e
  spelled_by_class Quote e = (string_read bs 0 (b ∷ []), λ s. string_spelled s 0 (b ∷ []) refl)
  spelled_by_class Open e = alone bs
  spelled_by_class Close e = alone bs
  spelled_by_class Backslash e = an_atom e
  spelled_by_class Atom e = an_atom e
  spelled_by_class Barred e = no_atom e

pub spelled_decides : (w : Word) → Decides (spelled sexpr_rules w) (Spelled w)
spelled_decides [] = (λ h. never h, λ s. absurd s)
spelled_decides (b ∷ bs) = subst (λ k. Decides (spelled sexpr_rules (b ∷ bs)) (SpelledAs k b bs)) (kind_by_class b) (spelled_by_class b bs (class_of b) (atom_by_class b))
