-- What a Break settles: it is the reach of each waiting token since whose coming no open block was opened.
use Rattle.std.specs.Prelude.{ℕ, suc, pred, cond, ◌&&◌, List, [], ◌∷◌, ◌==◌, Some, nat_lt}
use Rattle.layout.specs.Tokens.{Token, widths, opens, nest}
use Rattle.stream.specs.declared.record.Slot.{Slot}
use Rattle.stream.specs.Recorded.{waiting, extent, slotted}

-- how many of the waiting tokens a Break behind them leaves waiting
abbrev pub keeps : List Token → ℕ
keeps [] = 0
keeps (t ∷ ts) = cond (waiting t ts && nat_lt 0 (nest (opens t) ts)) (suc (keeps ts)) (keeps ts)

-- the records while a Break settles them from the last on: the first c waiting tokens still wait, the others' sizes are known
abbrev pub mixed : ℕ → List Token → List Slot
mixed c [] = []
mixed c (t ∷ ts) = slotted t (cond (waiting t ts && c == 0) (Some (widths (t ∷ ts))) (extent t ts)) ∷ mixed (cond (waiting t ts) (pred c) c) ts

-- where waiting token c, counted from 0, stands among the tokens
abbrev pub spot : ℕ → List Token → ℕ
spot c [] = 0
spot c (t ∷ ts) = cond (waiting t ts) (cond (c == 0) 0 (suc (spot (pred c) ts))) (suc (spot c ts))
