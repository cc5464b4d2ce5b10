-- A word is spelled as JSON has it exactly where the rules say so.
use Rattle.std.proofs.Common.{◌≡◌, ℕ, true, List, [], ◌∷◌, Decides, sym, refl, subst, inl, inr, arith}
use Rattle.std.proofs.lemmas.Bool.{false≢true, cond_both}
use Rattle.std.proofs.lemmas.Bool.Decides.{nat_tests}
use Rattle.grammar.specs.Meaning.{Word}
use Rattle.rules.specs.declared.word.Part.{Part}
use Rattle.rules.specs.declared.word.Part.TheVariants.{Minus, Zero, Integer}
use Rattle.rules.specs.declared.word.Begin.TheVariants.{Blank, Never}
use Rattle.rules.specs.Language.{none_left, spelled_begin, spelled}
use Rattle.json_language.specs.Words.{minus, zero_digit, Sort, begin_array, end_array, begin_object, end_object, value_separator, name_separator, string, number, literal, no_word, sort_of, blank, End, IsNumber, SpelledAs, Spelled}
use Rattle.json_language.specs.Rules.{json_rules}
use Rattle.json_language.proofs.Bytes.{first_part, begin_as, begins_by_sort}
use Rattle.json_language.proofs.Numbers.{Rest, number_sound, number_complete}
use Rattle.json_language.proofs.Strings.{no_escape, string_spells}
use Rattle.json_language.proofs.Literals.{literal_sound, literal_complete}

-- a word of one byte
alone : (w : List ℕ) → Decides (none_left w) (End w)
alone [] = (λ h. tt, λ r. refl)
alone (b ∷ w) = (λ h. absurd (false≢true h), λ r. absurd r)

-- what follows a number's first byte
first_to : (q : Part) (b : ℕ) (w : List ℕ) → first_part b ≡ q → Rest q w → Rest (first_part b) w
first_to q b w e r = subst (λ p. Rest p w) (sym e) r

first_forth : (b : ℕ) (w : List ℕ) → IsNumber (b ∷ w) → Rest (first_part b) w
first_forth b w (inl r) = first_to Minus b w (grind (arith, nat_tests)) r.1
first_forth b w (inr (inl r)) = first_to Zero b w (grind (arith, nat_tests)) r.1
first_forth b w (inr (inr r)) = first_to Integer b w (grind (arith, nat_tests)) r.1

first_back : (b : ℕ) (w : List ℕ) → sort_of b ≡ number → Rest (first_part b) w → IsNumber (b ∷ w)
first_back b w e =
    cond_both (minus b) Minus _ (λ q. Rest q w → IsNumber (b ∷ w))
    (λ h r. inl (h, r))
    (λ nm. cond_both (zero_digit b) Zero Integer (λ q. Rest q w → IsNumber (b ∷ w))
    (λ h r. inr (inl (h, r)))
    (λ nz r. inr (inr (grind (arith, nat_tests), r))))

no_spelling : (b : ℕ) (w : List ℕ) → spelled_begin json_rules b w (begin_as no_word b) ≡ true → ⊥
no_spelling b w = cond_both (blank b) Blank Never (λ t. spelled_begin json_rules b w t ≡ true → ⊥) (λ _ h. false≢true h) (λ _ h. false≢true h)

spelled_as : (s : Sort) (b : ℕ) (w : List ℕ) → sort_of b ≡ s → Decides (spelled_begin json_rules b w (begin_as s b)) (SpelledAs s b w)
spelled_as begin_array b w e = alone w
spelled_as end_array b w e = alone w
spelled_as begin_object b w e = alone w
spelled_as end_object b w e = alone w
spelled_as value_separator b w e = alone w
spelled_as name_separator b w e = alone w
spelled_as string b w e = string_spells w (b ∷ []) [] no_escape
spelled_as number b w e = (λ h. first_back b w e (number_sound (first_part b) (b ∷ []) w h), λ r. number_complete (first_part b) (b ∷ []) w (first_forth b w r))
spelled_as literal b w e = (literal_sound (b ∷ []) w, literal_complete (b ∷ []) w)
spelled_as no_word b w e = (no_spelling b w, λ r. absurd r)

pub spelling : (w : Word) → Decides (spelled json_rules w) (Spelled w)
spelling [] = (λ h. false≢true h, λ r. absurd r)
spelling (b ∷ w) = rw (begins_by_sort b) (spelled_as (sort_of b) b w refl)
