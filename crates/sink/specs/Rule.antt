-- What a sink means: a text and a rule over texts.
use Rattle.std.specs.Prelude.{◌≡◌, ℕ, Bool, true, false, cond, List, [], ◌∷◌, ◌++◌}
use Rattle.sink.specs.declared.fault.Refusal.{Refusal}
use Rattle.sink.specs.declared.fault.Refusal.TheVariants.{Own, Below}

-- Why a text is not admitted: the number of the refusal, and the kind of the sink that refuses.
pub record Reason : Type 0 where
  pub number : ℕ
  pub kind : ℕ

-- Which texts a sink admits, and why not another.
pub record Rule : Type 0 where
  pub admits : List ℕ → Bool
  pub reason : List ℕ → Reason

-- With a text, each beginning of it is admitted.
abbrev pub Beginnings : (List ℕ → Bool) → Type 0
Beginnings admits = (xs ys : List ℕ) → admits (xs ++ ys) ≡ true → admits xs ≡ true

-- What a refusal tells where a sink of kind k gives it: its own carries k, and one from below the kind that it came with.
abbrev pub told : ℕ → Refusal → Reason
told k (Own n) = record { number = n; kind = k }
told k (Below n j) = record { number = n; kind = j }

-- The laws of a sink: its rule admits with a text each beginning of it, and the text held; what becomes of a sink is an order.
pub record Laws {S : Type 0} (text : S → List ℕ) (rule : S → Rule) (later : S → S → Type 0) : Type 0 where
  pub beginnings : (s : S) → Beginnings (rule s).admits
  pub held : (s : S) → (rule s).admits (text s) ≡ true
  pub stays : (s : S) → later s s
  pub goes : (s t u : S) → later s t → later t u → later s u

-- A byte was taken: the longer text is admitted, and is held now.
pub record Taken (admits : List ℕ → Bool) (before : List ℕ) (byte : ℕ) (after : List ℕ) : Type 0 where
  pub fits : admits (before ++ byte ∷ []) ≡ true
  pub text : after ≡ before ++ byte ∷ []

-- A byte was barred: the longer text is not admitted.
pub record Barred (admits : List ℕ → Bool) (before : List ℕ) (byte : ℕ) : Type 0 where
  pub over : admits (before ++ byte ∷ []) ≡ false

-- The longest beginning of bytes that the rule admits behind a text, found byte by byte.
abbrev pub kept : (List ℕ → Bool) → List ℕ → List ℕ → List ℕ
kept p before [] = []
kept p before (b ∷ bs) = cond (p (before ++ b ∷ [])) (b ∷ kept p (before ++ b ∷ []) bs) []
