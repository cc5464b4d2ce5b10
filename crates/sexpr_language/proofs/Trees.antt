-- Words parse by the rules exactly when they are those of a list of expressions.
use Rattle.std.proofs.Common.{◌≡◌, ℕ, Bool, true, false, ◌&&◌, leb, List, [], ◌∷◌, length, Some, None, Option, refl, ap, ◌∙◌, arith}
use Rattle.std.proofs.lemmas.Bool.{leb-true}
use Rattle.grammar.specs.Meaning.{Word}
use Rattle.rules.specs.declared.word.Kind.{Kind}
use Rattle.rules.specs.declared.word.Kind.TheVariants.{Opening, Closing, Comma, Colon, Text, Number, Literal, Atom as AtomKind}
use Rattle.rules.specs.declared.place.Bracket.{Bracket}
use Rattle.rules.specs.declared.place.Bracket.TheVariants.{List as Parentheses}
use Rattle.rules.specs.declared.place.Expects.TheVariants.{First, After}
use Rattle.rules.specs.declared.place.Move.{Move}
use Rattle.rules.specs.Rules.{Place, is_some, innermost, moved, placed}
use Rattle.rules.specs.Language.{parses, spelled_begin}
use Rattle.rules.specs.Lawful.{AllSpelled}
use Rattle.sexpr_language.specs.declared.class.Class.{Class}
use Rattle.sexpr_language.specs.declared.class.Class.TheVariants.{Control, Blank, Space, Quote, Open, Close, Backslash, Atom, Barred}
use Rattle.sexpr_language.specs.Classes.{class_of}
use Rattle.sexpr_language.specs.Language.{Expression, atom, string, list, Expressions, none, more, expr, exprs, kinds}
use Rattle.sexpr_language.specs.Rules.{class_kind, class_begins, class_moves, sexpr_rules}
use Rattle.sexpr_language.proofs.Cases.{never}
use Rattle.sexpr_language.proofs.Bytes.{kind_by_class}

-- kinds of words close all brackets that are open before them or that they open
abbrev pub balances : List Bracket → List Kind → Bool
balances ks [] = leb (length ks) 0
balances ks (Opening ∷ s) = balances (Parentheses ∷ ks) s
balances [] (Closing ∷ s) = false
balances (k ∷ ks) (Closing ∷ s) = balances ks s
balances ks (Comma ∷ s) = false
balances ks (Colon ∷ s) = false
balances ks (Text ∷ s) = balances ks s
balances ks (Number ∷ s) = false
balances ks (Literal ∷ s) = false
balances ks (AtomKind ∷ s) = balances ks s

-- the kinds of an expression leave the open brackets as they are
mutual
  pub expr_balances : (e : Expression) (ks : List Bracket) (s : List Kind) → balances ks (expr e s) ≡ balances ks s
  expr_balances atom ks s = refl
  expr_balances string ks s = refl
  expr_balances (list es) ks s = exprs_balance es (Parentheses ∷ ks) (Closing ∷ s)

  pub exprs_balance : (es : Expressions) (ks : List Bracket) (s : List Kind) → balances ks (exprs es s) ≡ balances ks s
  exprs_balance none ks s = refl
  exprs_balance (more e es) ks s = expr_balances e ks (exprs es s) ∙ exprs_balance es ks s

-- expressions, and behind them for each open bracket a closing word and again expressions
abbrev pub Fills : List Bracket → List Kind → Type 0
Fills [] s = (es : Expressions) × (s ≡ exprs es [])
Fills (k ∷ ks) s = (es : Expressions) × (rest : List Kind) × (s ≡ exprs es (Closing ∷ rest)) × Fills ks rest

one_before : (e : Expression) (ks : List Bracket) (s rest : List Kind) → s ≡ expr e rest → Fills ks rest → Fills ks s
one_before e [] s rest p f = (more e f.0, p ∙ ap (expr e) f.1)
one_before e (k ∷ ks) s rest p f = (more e f.0, f.1, p ∙ ap (expr e) f.2, f.3)

list_before : (ks : List Bracket) (s : List Kind) → Fills (Parentheses ∷ ks) s → Fills ks (Opening ∷ s)
list_before ks s f = one_before (list f.0) ks (Opening ∷ s) f.1 (ap (λ (t : List Kind). Opening ∷ t) f.2) f.3

pub balanced_fills : (s : List Kind) (ks : List Bracket) → balances ks s ≡ true → Fills ks s
balanced_fills [] [] h = (none, refl)
balanced_fills [] (k ∷ ks) h = let l = leb-true (length (k ∷ ks)) 0 h in absurd (omega arith)
balanced_fills (Opening ∷ s) ks h = list_before ks s (balanced_fills s (Parentheses ∷ ks) h)
balanced_fills (Closing ∷ s) [] h = never h
balanced_fills (Closing ∷ s) (k ∷ ks) h = (none, s, refl, balanced_fills s ks h)
balanced_fills (Comma ∷ s) ks h = never h
balanced_fills (Colon ∷ s) ks h = never h
balanced_fills (Text ∷ s) ks h = one_before string ks (Text ∷ s) s refl (balanced_fills s ks h)
balanced_fills (Number ∷ s) ks h = never h
balanced_fills (Literal ∷ s) ks h = never h
balanced_fills (AtomKind ∷ s) ks h = one_before atom ks (AtomKind ∷ s) s refl (balanced_fills s ks h)

-- behind an expression may stand what may stand first: a word that may stand moves both places alike
moved_alike : (m : Option Move) (p q : Place) (ws : List Word) → p.brackets ≡ q.brackets → (is_some m && parses sexpr_rules (placed m p) ws) ≡ (is_some m && parses sexpr_rules (placed m q) ws)
moved_alike None p q ws e = refl
moved_alike (Some m) p q ws e = ap (λ ks. parses sexpr_rules (moved m ks) ws) e

pub after_as_first : (ws : List Word) (ks : List Bracket) → parses sexpr_rules (record { expects = After; brackets = ks }) ws ≡ parses sexpr_rules (record { expects = First; brackets = ks }) ws
after_as_first [] ks = refl
after_as_first ([] ∷ ws) ks = refl
after_as_first ((b ∷ w) ∷ ws) ks = moved_alike (class_moves (innermost ks) (class_of b)) _ _ ws refl

-- what is left of `parses` behind a word's first byte, by its class
abbrev ParsesOn : List Word → List Bracket → Class → Type 0
ParsesOn ws ks c = (is_some (class_moves (innermost ks) c) && parses sexpr_rules (placed (class_moves (innermost ks) c) (record { expects = First; brackets = ks })) ws) ≡ balances ks (class_kind c ∷ kinds ws)

parses_on : (b : ℕ) (w : Word) (ws : List Word) (ks : List Bracket) (c : Class) → spelled_begin sexpr_rules b w (class_begins c) ≡ true
    → ((ls : List Bracket) → parses sexpr_rules (record { expects = First; brackets = ls }) ws ≡ balances ls (kinds ws)) → ParsesOn ws ks c
parses_on b w ws ks Control h ih = never h
parses_on b w ws ks Blank h ih = never h
parses_on b w ws ks Space h ih = never h
parses_on b w ws ks Quote h ih = after_as_first ws ks ∙ ih ks
parses_on b w ws ks Open h ih = ih (Parentheses ∷ ks)
parses_on b w ws [] Close h ih = refl
parses_on b w ws (k ∷ ks) Close h ih = after_as_first ws ks ∙ ih ks
parses_on b w ws ks Backslash h ih = after_as_first ws ks ∙ ih ks
parses_on b w ws ks Atom h ih = after_as_first ws ks ∙ ih ks
parses_on b w ws ks Barred h ih = never h

pub parses_balanced : (ws : List Word) (ks : List Bracket) → AllSpelled sexpr_rules ws → parses sexpr_rules (record { expects = First; brackets = ks }) ws ≡ balances ks (kinds ws)
parses_balanced [] ks g = refl
parses_balanced ([] ∷ ws) ks g = never g.0
parses_balanced ((b ∷ w) ∷ ws) ks g =
    parses_on b w ws ks (class_of b) g.0 (λ ls. parses_balanced ws ls g.1) ∙ ap (λ k. balances ks (k ∷ kinds ws)) (kind_by_class b)
