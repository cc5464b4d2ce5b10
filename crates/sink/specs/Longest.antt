-- What a rule keeps of a run is the longest beginning of it that the rule admits.
use Rattle.std.specs.Prelude.{◌≡◌, ℕ, ◌≤◌, Bool, true, List, ◌++◌, length, take}
use Rattle.sink.specs.Rule.{Beginnings, kept}

-- of the bytes behind a text: it is a beginning of them, the rule admits it there, and no longer beginning is admitted
pub record Longest (admits : List ℕ → Bool) (before bytes : List ℕ) : Type 0 where
  pub begins : kept admits before bytes ≡ take (length (kept admits before bytes)) bytes
  pub admitted : admits (before ++ kept admits before bytes) ≡ true
  pub longest : (n : ℕ) → n ≤ length bytes → admits (before ++ take n bytes) ≡ true → n ≤ length (kept admits before bytes)

-- for every rule that admits with a text each beginning of it, behind every text that it admits
abbrev pub KeptIsLongest : Type 0
KeptIsLongest = (admits : List ℕ → Bool) → Beginnings admits → (before bytes : List ℕ) → admits before ≡ true → Longest admits before bytes
