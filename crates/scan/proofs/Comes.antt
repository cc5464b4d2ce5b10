-- A token comes: what the queues hold then.
use Rattle.std.proofs.Common.{◌≡◌, ℕ, suc, ◌+◌, ◌<◌, ◌≤◌, true, List, [], ◌∷◌, ◌++◌, length, ℤ, sym, refl, ap, ◌∙◌, append_assoc, arith}
use Rattle.std.proofs.lemmas.Grind.{common_steps}
use Rattle.layout.specs.Tokens.{Token, Break, width, widths, nest}
use Rattle.stream.specs.declared.record.Place.{Place}
use Rattle.stream.specs.Recorded.{extent, slotted, recorded, text_of, texts, deeper, place, waits, wrapped}
use Rattle.stream.specs.Settling.{keeps}
use Rattle.stream.proofs.Nests.{quiet, nest_append}
use Rattle.stream.proofs.Settles.{own, recorded_quiet, waits_quiet, mixed_break, waits_break}
use Rattle.queue.specs.Items.{items}
use Rattle.scan.specs.declared.scan.Scan.{Scan}
use Rattle.scan.specs.Holding.{Counts, Holds, Settling}

pub widths_append : (h us : List Token) → widths (h ++ us) ≡ widths h + widths us
widths_append [] us = omega arith
widths_append (t ∷ ts) us = let e = widths_append ts us in omega arith

pub texts_append : (h us : List Token) → texts (h ++ us) ≡ texts h ++ texts us
texts_append [] us = refl
texts_append (t ∷ ts) us = ap (λ (xs : List ℕ). text_of t ++ xs) (texts_append ts us) ∙ sym (append_assoc (text_of t) (texts ts) (texts us))

pub length_recorded : (h : List Token) → length (recorded h) ≡ length h
length_recorded [] = refl
length_recorded (t ∷ ts) = ap suc (length_recorded ts)

pub length_waits : (k b d : ℕ) (h : List Token) → length (waits k b d h) ≤ length h
length_waits k b d [] = omega arith
length_waits k b d (t ∷ ts) = let ih = length_waits (suc k) (b + width t) (deeper d t) ts in grind (arith, common_steps)

-- s' is s with a token and its places more
pub record More (s : Scan) (x : Token) (ps : List Place) (s' : Scan) : Type 0 where
  pub slots : items s'.slots ≡ items s.slots ++ slotted x (extent x []) ∷ []
  pub texts : items s'.texts ≡ items s.texts ++ text_of x
  pub places : items s'.places ≡ items s.places ++ ps
  pub depth : s'.depth ≡ nest s.depth (x ∷ [])
  pub total : s'.total ≡ wrapped (s.total + width x)
  pub serial : s'.serial ≡ s.serial
  pub base : s'.base ≡ s.base

counts_more : (k b d : ℕ) (h : List Token) (x : Token) (ps : List Place) (s s' : Scan) → Counts k b d h s → widths h + width x < 65536 → More s x ps s' → Counts k b d (h ++ x ∷ []) s'
counts_more k b d h x ps s s' c room e =
    record {
      serial = e.serial ∙ c.serial;
      gone = e.base ∙ c.gone;
      total = grind (arith, common_steps, widths_append, e.total, c.total);
      texts = grind (arith, common_steps, texts_append, e.texts, c.texts);
      depth = grind (arith, common_steps, nest_append, e.depth, c.depth);
      room = grind (arith, common_steps, widths_append);
    }

-- a token that is no Break comes
pub come_quiet : (k d : ℕ) (h : List Token) (x : Token) (s s' : Scan) (hold : Holds k d h s) → quiet x ≡ true → widths h + width x < 65536
    → More s x (own (k + length h) (hold.base + widths h) (nest d h) x) s'
    → Holds k d (h ++ x ∷ []) s'
come_quiet k d h x s s' hold q room e =
    record {
      base = hold.base;
      counts = counts_more k hold.base d h x _ s s' hold.counts room e;
      slots = grind (arith, common_steps, recorded_quiet, e.slots, hold.slots);
      places = grind (arith, common_steps, waits_quiet, e.places, hold.places);
    }

-- a Break comes, once it has settled what it settles
pub come_break : (k b d : ℕ) (h : List Token) (n : ℕ) (o : ℤ) (s s' : Scan) → Settling k b d h (keeps h) s → widths h + n < 65536
    → More s (Break n o) (place (k + length h) (b + widths h) (nest d h) ∷ []) s'
    → Holds k d (h ++ Break n o ∷ []) s'
come_break k b d h n o s s' stl room e =
    record {
      base = b;
      counts = counts_more k b d h (Break n o) _ s s' stl.counts room e;
      slots = grind (arith, common_steps, mixed_break, e.slots, stl.slots);
      places = grind (arith, common_steps, waits_break, e.places, stl.places);
    }
