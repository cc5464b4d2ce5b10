-- One step of settling, over plain values.
use Rattle.std.proofs.Common.{◌≡◌, ℕ, suc, ◌+◌, ◌-◌, ◌%◌, ◌<◌, ◌≤◌, List, [], ◌∷◌, length, get_or, take, drop, set, Some, None, sym, ap, ◌∙◌, ⊎_elim, arith, IfSome, slice_get}
use Rattle.std.proofs.lemmas.Grind.{common_steps}
use Rattle.std.proofs.lemmas.List.{take-append-drop}
use Rattle.std.proofs.lemmas.Option.{gets, slice_get-get_or, MatchOption-at_some}
use Rattle.std.proofs.lemmas.Bool.{cases_lt}
use Rattle.layout.specs.Tokens.{Token, Ending, width, widths, nest}
use Rattle.stream.specs.declared.record.Place.{Place}
use Rattle.stream.specs.Recorded.{slotted, place, waits, wrapped, deeper}
use Rattle.stream.specs.Settling.{keeps, mixed, spot}
use Rattle.stream.proofs.Places.{place_at, sized, mixed_step, deep, shallow}
use Rattle.queue.specs.declared.owned.Queue.{Queue}
use Rattle.queue.specs.Items.{items}
use Rattle.scan.specs.declared.scan.Scan.{Scan}
use Rattle.scan.specs.Holding.{Settling}
use Rattle.scan.proofs.Comes.{widths_append}

-- differences modulo 2^16
pub unwrapped : (a n x y : ℕ) → n < 65536 → y ≡ wrapped a → x ≡ wrapped (a + n) → (x + (65536 - y)) % 65536 ≡ n
unwrapped a n x y l p q = omega arith

pub length_mixed : (c : ℕ) (h : List Token) → length (mixed c h) ≡ length h
length_mixed c [] = grind (arith, common_steps)
length_mixed c (t ∷ ts) = ap suc (length_mixed _ ts)

-- a Break leaves no more waiting than wait
pub keeps_waits : (k b d : ℕ) (h : List Token) → keeps h ≤ length (waits k b d h)
keeps_waits k b d [] = omega arith
keeps_waits k b d (t ∷ ts) = let ih = keeps_waits (suc k) (b + width t) (deeper d t) ts in grind (arith, common_steps)

-- The last place, while c tokens are left waiting.
module _ (k b d : ℕ) (h : List Token) (c : ℕ) (s : Scan) (stl : Settling k b d h c s) (p : Place) (last : Some p ≡ slice_get (items s.places) (length (items s.places) - 1)) where
  -- it is that of waiting token c - 1
  last_place : (0 < c) × (p ≡ get_or (waits k b d h) (c - 1) p)
  last_place = (grind (arith, common_steps, gets), grind (arith, common_steps, gets))

  -- a Break keeps it, where a block is open that was opened at it or after it
  pub settle_stop : p.depth < s.depth → c ≡ keeps h
  settle_stop l = ⊎_elim (λ q. let x = deep (c - 1) k b d h p (omega arith) (let m = stl.most in omega (arith, last_place.0)) in grind (arith, last_place)) (λ q. let x = stl.least in omega arith) (cases_lt (keeps h) c)

  -- settling it changes one record, and takes its place off
  pub settle_step : s.depth ≤ p.depth → length (items s.slots) ≤ 384 → (at size : ℕ) → at ≡ (p.serial + (65536 - s.serial)) % 65536 → size ≡ (s.total + (65536 - p.since)) % 65536
      → (s' : Scan) (ps : Queue Place 384) → s' ≡ record s { slots = s'.slots; places = ps } → items ps ≡ take (length (items s.places) - 1) (items s.places) → IfSome (slice_get (items s.slots) at) (λ slot. items s'.slots ≡ set (items s.slots) at (sized slot size))
      → (n : ℕ) × (c ≡ suc n) × Settling k b d h n s'
  settle_step l few at size e f s' ps same gone changed =
      let n = c - 1 in
      let t = stl.counts in
      let more : c ≡ suc n = omega (arith, last_place.0) in
      let inside : n < length (waits k b d h) = let m = stl.most in omega arith in
      let stands = place_at n k b d h p inside in
      let within = stands.within in
      let i = spot n h in
      let where' : p ≡ place (k + i) (b + widths (take i h)) (nest d (take i h)) = last_place.1 ∙ stands.is in
      let long : length (items s.slots) ≡ length h = ap length stl.slots ∙ length_mixed c h in
      let both : widths h ≡ widths (take i h) + widths (drop i h) = ap widths (sym (take-append-drop i h)) ∙ widths_append (take i h) (drop i h) in
      let room = t.room in
      let is : at ≡ i = e ∙ unwrapped k i p.serial s.serial (omega arith) t.serial (ap (λ (x : Place). x.serial) where') in
      let wide : size ≡ widths (drop i h) = f ∙ unwrapped (b + widths (take i h)) (widths (drop i h)) s.total p.since (omega arith) (ap (λ (x : Place). x.since) where') (t.total ∙ ap wrapped (omega arith)) in
      let blank = slotted Ending None in
      let wrote = MatchOption-at_some _ _ _ (slice_get-get_or (items s.slots) at blank (omega arith)) changed in
      let step = mixed_step n k b d h blank inside in (
        n,
        more,
        record {
          counts = record { serial = cc; gone = cc; total = cc; texts = cc; depth = cc; room = room };
          slots = grind (arith, common_steps, stl.slots);
          places = grind (arith, common_steps, stl.places);
          most = omega arith;
          least = ⊎_elim (λ q. omega arith) (λ q. let x = shallow n k b d h p (let y = stl.least in omega arith) in let y = t.depth in absurd (grind (arith, last_place.1))) (cases_lt (keeps h) c);
        },
      )
