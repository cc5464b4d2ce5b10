-- What a ring holds of the slots that it is lent.
use Rattle.std.specs.Prelude.{ℕ, ◌+◌, ◌-◌, cond, List, ◌++◌, take, drop, nat_lt}
use Rattle.queue.specs.declared.Ring.{Ring}

-- the slots from h on, and then those before h; all of them as they stand where h is past the end
abbrev pub turned : {X : Type 0} → ℕ → List X → List X
turned h xs = drop h xs ++ take h xs

-- the elements held, first to last
abbrev pub held : {X : Type 0} → List X → Ring → List X
held xs ring = take ring.len (turned ring.head xs)

-- where the i-th of n turned slots stands
abbrev pub slot : ℕ → ℕ → ℕ → ℕ
slot n h i = cond (nat_lt i (n - h)) (h + i) (i - (n - h))
