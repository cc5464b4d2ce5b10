-- Texts of words, whatever the language.
use Rattle.std.proofs.Common.{◌≡◌, ℕ, Bool, true, false, List, [], ◌∷◌, sym, ◌∙◌, subst}
use Rattle.grammar.specs.Meaning.{Word}
use Rattle.rules.specs.declared.word.Kind.{Kind}
use Rattle.rules.specs.Rules.{Rules, loose}
use Rattle.rules.specs.Language.{FollowsKind, Follows, Written, nothing, blank_byte, word_then, WrittenBy}
use Rattle.rules.specs.Lawful.{AllSpelled}

-- one way of writing is another where the tests on bytes agree and each word of the one is a word of the other
module _ (blank₁ blank₂ : ℕ → Bool) (kind₁ kind₂ : ℕ → Kind) (delimits₁ delimits₂ : ℕ → Bool) (Spelled₁ Spelled₂ : Word → Type 0)
    (same_blank : (b : ℕ) → blank₁ b ≡ blank₂ b) (same_kind : (b : ℕ) → kind₁ b ≡ kind₂ b) (same_delimits : (b : ℕ) → delimits₁ b ≡ delimits₂ b)
    (respelled : (w : Word) → Spelled₁ w → Spelled₂ w) where
  delimited_alike : (loosely : Bool) (bs : List ℕ) → FollowsKind delimits₁ loosely bs → FollowsKind delimits₂ loosely bs
  delimited_alike false bs f = tt
  delimited_alike true [] f = tt
  delimited_alike true (b ∷ bs) f = sym (same_delimits b) ∙ f

  pub follows_alike : (w : Word) (bs : List ℕ) → Follows kind₁ delimits₁ w bs → Follows kind₂ delimits₂ w bs
  follows_alike [] bs f = tt
  follows_alike (b ∷ w) bs f = subst (λ k. FollowsKind delimits₂ (loose k) bs) (same_kind b) (delimited_alike (loose (kind₁ b)) bs f)

  abbrev pub written_alike : {ws : List Word} {bs : List ℕ} → Written blank₁ kind₁ delimits₁ Spelled₁ ws bs → Written blank₂ kind₂ delimits₂ Spelled₂ ws bs
  written_alike nothing = nothing
  written_alike (blank_byte b e x) = blank_byte b (sym (same_blank b) ∙ e) (written_alike x)
  written_alike (word_then w rest s e f x) = word_then w rest (respelled w s) e (follows_alike w rest f) (written_alike x)

-- the words of a text by rules are spelled by them
pub all_spelled : (r : Rules) {ws : List Word} {bs : List ℕ} → WrittenBy r ws bs → AllSpelled r ws
all_spelled r nothing = tt
all_spelled r (blank_byte b e x) = all_spelled r x
all_spelled r (word_then w rest s e f x) = (s, all_spelled r x)
