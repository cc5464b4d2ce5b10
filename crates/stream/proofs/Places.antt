-- Where a waiting token stands, what its place says, and what settling it changes.
use Rattle.std.proofs.Common.{◌≡◌, ℕ, suc, pred, ◌+◌, ◌<◌, ◌≤◌, true, List, [], ◌∷◌, length, get_or, take, drop, set, Some, arith}
use Rattle.std.proofs.lemmas.Grind.{common_steps}
use Rattle.layout.specs.Tokens.{Token, Text, Break, Opening, Ending, width, widths, opens, nest}
use Rattle.stream.specs.declared.record.Slot.{Slot}
use Rattle.stream.specs.declared.record.Place.{Place}
use Rattle.stream.specs.Recorded.{waiting, deeper, place, waits}
use Rattle.stream.specs.Settling.{keeps, mixed, spot}
use Rattle.stream.proofs.Nests.{nest_deeper, nest_most, nest_shift}
use Rattle.stream.proofs.Settles.{nest_rest, nest_step, none_kept, some_kept}

-- the place of waiting token c
pub record Stands (c k b d : ℕ) (h : List Token) (p : Place) : Type 0 where
  pub within : spot c h < length h
  pub is : get_or (waits k b d h) c p ≡ place (k + spot c h) (b + widths (take (spot c h) h)) (nest d (take (spot c h) h))

pub place_at : (c k b d : ℕ) (h : List Token) (p : Place) → c < length (waits k b d h) → Stands c k b d h p
place_at c k b d [] p l = absurd (omega arith)
place_at c k b d (t ∷ ts) p l =
    let first = place_at c (suc k) (b + width t) (deeper d t) ts p in
    let later = place_at (pred c) (suc k) (b + width t) (deeper d t) ts p in
    record { within = grind (arith, common_steps); is = grind (arith, common_steps, nest_deeper d t) }

-- a record whose size is known now
abbrev pub sized : Slot → ℕ → Slot
sized s n = record { token = s.token; size = Some n }

-- settling waiting token c changes one record
pub mixed_step : (c k b d : ℕ) (h : List Token) (s : Slot) → c < length (waits k b d h) → mixed c h ≡ set (mixed (suc c) h) (spot c h) (sized (get_or (mixed (suc c) h) (spot c h) s) (widths (drop (spot c h) h)))
mixed_step c k b d [] s l = absurd (omega arith)
mixed_step c k b d (t ∷ ts) s l =
    let first = mixed_step c (suc k) (b + width t) (deeper d t) ts s in
    let later = mixed_step (pred c) (suc k) (b + width t) (deeper d t) ts s in
    grind (arith, common_steps)

deeper_opens : (d : ℕ) (t : Token) (ts : List Token) → waiting t ts ≡ true → deeper d t ≡ opens t + d
deeper_opens d (Text bytes) ts w = grind (arith, common_steps)
deeper_opens d (Break blanks offset) ts w = omega arith
deeper_opens d (Opening offset fold anchor) ts w = omega arith
deeper_opens d Ending ts w = grind (arith, common_steps)

-- from the last on, the places that a Break settles have at least as many blocks open before them as are open now
pub deep : (c k b d : ℕ) (h : List Token) (p : Place) → keeps h ≤ c → c < length (waits k b d h) → nest d h ≤ (get_or (waits k b d h) c p).depth
deep c k b d [] p l m = absurd (omega arith)
deep c k b d (t ∷ ts) p l m =
    let first = deep c (suc k) (b + width t) (deeper d t) ts p in
    let later = deep (pred c) (suc k) (b + width t) (deeper d t) ts p in
    grind (arith, common_steps, nest_deeper d t ts, nest_rest t ts, nest_step t ts, none_kept ts, deeper_opens d t ts, nest_most (opens t) (deeper d t) d ts)

-- and the last one that it leaves waiting has fewer
pub shallow : (c k b d : ℕ) (h : List Token) (p : Place) → keeps h ≡ suc c → (get_or (waits k b d h) c p).depth < nest d h
shallow c k b d [] p l = absurd (omega arith)
shallow c k b d (t ∷ ts) p l =
    let first = shallow c (suc k) (b + width t) (deeper d t) ts p in
    let later = shallow (pred c) (suc k) (b + width t) (deeper d t) ts p in
    grind (arith, common_steps, nest_deeper d t ts, nest_rest t ts, nest_step t ts, none_kept ts, some_kept ts, deeper_opens d t ts, nest_shift (opens t) (deeper d t) d ts)
