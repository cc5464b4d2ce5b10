-- The refusal of a margin.
use Rattle.std.specs.Prelude.{◌≡◌, ℕ, ◌≤◌, Result, MatchResult}
use Rattle.layout.specs.declared.fault.MarginFault.{MarginFault}
use Rattle.layout.specs.declared.margin.Margin.{Margin}

-- no margin has that many columns
abbrev pub OutOfRange : ℕ → Type 0
OutOfRange columns = 16 ≤ columns → columns ≤ 120 → ⊥

-- the refusal has the columns asked for
abbrev pub margin_fault : ℕ → MarginFault
margin_fault columns = record { columns = columns }

-- its number is 1
abbrev pub number_of : MarginFault → ℕ
number_of fault = 1

-- the margin of so many columns, or their refusal
abbrev pub MarginOf : ℕ → Result Margin MarginFault → Type 0
MarginOf columns r = MatchResult r (λ m. (m.columns ≡ columns) × (16 ≤ columns) × (columns ≤ 120)) (λ f. (f ≡ margin_fault columns) × OutOfRange columns)
