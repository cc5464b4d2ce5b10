-- Literals: the rules let a literal go on while it begins one of the three words, and end where it is one.
use Rattle.std.proofs.Common.{◌≡◌, ℕ, Bool, true, false, cond, ◌||◌, eqb, ◌⊎◌, List, [], ◌∷◌, ◌++◌, codes, Decides, sym, refl, ap, subst, ap₂, inl, inr, append_assoc}
use Rattle.std.proofs.lemmas.List.{append-nil}
use Rattle.std.proofs.lemmas.Bool.{false≢true, eqb-true, eq-eqb, and_parts, and_from}
use Rattle.std.proofs.lemmas.Bool.Decides.{Decides-or}
use Rattle.grammar.specs.Meaning.{Word}
use Rattle.rules.specs.declared.word.Inside.{Inside}
use Rattle.rules.specs.declared.word.Inside.TheVariants.{Literal}
use Rattle.rules.specs.declared.word.Turn.TheVariants.{Stays, Never}
use Rattle.rules.specs.Language.{none_left, spelled_turn, spelled_on}
use Rattle.json_language.specs.Words.{IsLiteral}
use Rattle.json_language.specs.Rules.{goes_on, same, literal_goes_on, literal_whole, json_rules}

-- a test of the three words passes exactly where one of them has what it tests
each : (test : List ℕ → Bool) (Q : List ℕ → Type 0) → ((c : List ℕ) → Decides (test c) (Q c))
    → Decides (test (codes "true") || (test (codes "false") || test (codes "null"))) (Q (codes "true") ⊎ (Q (codes "false") ⊎ Q (codes "null")))
each test Q d = Decides-or _ _ (d (codes "true")) (Decides-or _ _ (d (codes "false")) (d (codes "null")))

same_word : (c w : List ℕ) → Decides (same c w) (w ≡ c)
same_word c w = (sound c w, λ e. subst (λ v. same c v ≡ true) (sym e) (itself c))
  where
    sound : (c w : List ℕ) → same c w ≡ true → w ≡ c
    sound [] [] h = refl
    sound [] (x ∷ w) h = absurd (false≢true h)
    sound (y ∷ c) [] h = absurd (false≢true h)
    sound (y ∷ c) (x ∷ w) h = let p = and_parts (eqb x y) (same c w) h in ap₂ ◌∷◌ (eqb-true x y p.0) (sound c w p.1)

    itself : (c : List ℕ) → same c c ≡ true
    itself [] = refl
    itself (y ∷ c) = and_from (eqb y y) (same c c) (eq-eqb y y refl) (itself c)

pub whole_literal : (w : Word) → Decides (literal_whole w) (IsLiteral w)
whole_literal w = each (λ c. same c w) (λ c. w ≡ c) (λ c. same_word c w)

-- a word that begins with these bytes
abbrev Begins : Word → List ℕ → Type 0
Begins w c = (v : List ℕ) × (w ++ v ≡ c)

goes_word : (c w : List ℕ) (b : ℕ) → Decides (goes_on c w b) (Begins (w ++ b ∷ []) c)
goes_word c w b = (sound c w, λ p. subst (λ d. goes_on d w b ≡ true) p.1 (front w p.0))
  where
    sound : (c w : List ℕ) → goes_on c w b ≡ true → Begins (w ++ b ∷ []) c
    sound [] w h = absurd (false≢true h)
    sound (y ∷ c) [] h = (c, ap (λ (x : ℕ). x ∷ c) (eqb-true b y h))
    sound (y ∷ c) (x ∷ w) h =
        let p = and_parts (eqb x y) (goes_on c w b) h in
        let q = sound c w p.1 in
        (q.0, ap₂ ◌∷◌ (eqb-true x y p.0) q.1)

    front : (w v : List ℕ) → goes_on ((w ++ b ∷ []) ++ v) w b ≡ true
    front [] v = eq-eqb b b refl
    front (x ∷ w) v = and_from (eqb x x) (goes_on ((w ++ b ∷ []) ++ v) w b) (eq-eqb x x refl) (front w v)

-- a literal begins with these bytes
abbrev pub BeginsLiteral : Word → Type 0
BeginsLiteral w = (v : List ℕ) × IsLiteral (w ++ v)

pub goes_literal : (w : Word) (b : ℕ) → Decides (literal_goes_on w b) (BeginsLiteral (w ++ b ∷ []))
goes_literal w b =
    let d = each (λ c. goes_on c w b) (Begins (w ++ b ∷ [])) (λ c. goes_word c w b) in
    (λ h. joined (d.0 h), λ p. d.1 (parted p.0 p.1))
  where
    joined : Begins (w ++ b ∷ []) (codes "true") ⊎ (Begins (w ++ b ∷ []) (codes "false") ⊎ Begins (w ++ b ∷ []) (codes "null")) → BeginsLiteral (w ++ b ∷ [])
    joined (inl p) = (p.0, inl p.1)
    joined (inr (inl p)) = (p.0, inr (inl p.1))
    joined (inr (inr p)) = (p.0, inr (inr p.1))

    parted : (v : List ℕ) → IsLiteral ((w ++ b ∷ []) ++ v) → Begins (w ++ b ∷ []) (codes "true") ⊎ (Begins (w ++ b ∷ []) (codes "false") ⊎ Begins (w ++ b ∷ []) (codes "null"))
    parted v (inl e) = inl (v, e)
    parted v (inr (inl e)) = inr (inl (v, e))
    parted v (inr (inr e)) = inr (inr (v, e))

-- the rules let a literal go on with these bytes exactly where they make it whole
stays_literal : (f : Inside → Bool) (last t : Bool) → spelled_turn f last (cond t (Stays Literal) Never) ≡ true → f Literal ≡ true
stays_literal f last true h = h
stays_literal f last false h = absurd (false≢true h)

pub literal_sound : (w bs : List ℕ) → spelled_on json_rules Literal w bs ≡ true → IsLiteral (w ++ bs)
literal_sound w [] h = rw (append-nil w) ((whole_literal w).0 h)
literal_sound w (b ∷ bs) h =
    rw (← append_assoc w (b ∷ []) bs)
    (literal_sound (w ++ b ∷ []) bs (stays_literal (λ j. spelled_on json_rules j (w ++ b ∷ []) bs) (none_left bs) (literal_goes_on w b) h))

pub literal_complete : (w bs : List ℕ) → IsLiteral (w ++ bs) → spelled_on json_rules Literal w bs ≡ true
literal_complete w [] r = (whole_literal w).1 (rw (append-nil w) at r)
literal_complete w (b ∷ bs) r =
    let s : IsLiteral ((w ++ b ∷ []) ++ bs) = rw (append_assoc w (b ∷ []) bs) r in
    rw ((goes_literal w b).1 (bs, s)) (literal_complete (w ++ b ∷ []) bs s)
