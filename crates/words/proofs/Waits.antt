-- The words that wait, by what the reader tells of them.
use Rattle.std.proofs.Common.{◌≡◌, ℕ, zero, suc, ◌+◌, ◌-◌, ◌<◌, ◌≤◌, Bool, true, false, cond, not, List, [], ◌∷◌, length, take, drop, Some, None, sym, refl, ap, ◌∙◌, arith, add-one}
use Rattle.std.proofs.lemmas.List.{length-take, length-drop}
use Rattle.grammar.specs.Meaning.{Word as Bytes}
use Rattle.rules.specs.Rules.{Rules, loose}
use Rattle.reading.specs.Places.{place_of, placed_at}
use Rattle.reader.specs.declared.ended.Ended.{Ended}
use Rattle.reader.specs.Endings.{described_at}
use Rattle.words.specs.Handed.{OfKind}
use Rattle.words.specs.Left.{AllGood, waiting}

-- nothing is told where no word is left
pub none_waits : (r : Rules) (text : List ℕ) (k : ℕ) (ws : List Bytes) (n : ℕ) → described_at r ws n ≡ None → AllGood text (placed_at r.kind k (drop n ws)) → placed_at r.kind k (drop n ws) ≡ []
none_waits r text k [] zero e g = refl
none_waits r text k [] (suc n) e g = refl
none_waits r text k ([] ∷ ws) zero e g = absurd (let h : 0 < 0 = g.0 in omega arith)
none_waits r text k ((b ∷ w) ∷ ws) zero e g = cc
none_waits r text k (w ∷ ws) (suc n) e g = none_waits r text k ws n e g

-- where a word stands that the last of n bytes has ended
stands_at : (t : Bool) (n m : ℕ) → cond (not t) n (n - 1) - suc m ≡ cond t ((n - 1) - suc m) (suc (n - 1) - suc m)
stands_at true n m = refl
stands_at false n m = omega arith

in_text : (w text : Bytes) (k : ℕ) → 0 < length w → take (length w) (drop k text) ≡ w → k + length w ≤ length text
in_text w text k h e =
    let a = ap length e in
    let b = length-take (length w) (drop k text) in
    let c = length-drop k text in
    omega arith

-- the first word that waits, by what is told of it
pub record First (r : Rules) (text : List ℕ) (n : ℕ) (ws : List Bytes) (m : ℕ) (e : Ended) (place : ℕ) : Type 0 where
  pub within : place + e.len ≤ length text
  pub waits : waiting r n ws m ≡ record { place = place; word = take e.len (drop place text) } ∷ waiting r n ws (m + 1)
  pub kind : OfKind r (take e.len (drop place text)) e.kind

pub first_waits : (r : Rules) (text : List ℕ) (n : ℕ) (ws : List Bytes) (m : ℕ) (e : Ended) (place : ℕ) → described_at r ws m ≡ Some e → AllGood text (waiting r n ws m) → place ≡ cond (not (loose e.kind)) n (n - 1) - e.len → First r text n ws m e place
first_waits r text n [] m e place h g p = cc
first_waits r text n ([] ∷ ws) zero e place h g p = cc
first_waits r text n ((b ∷ w) ∷ ws) zero e place h g p =
    let v : Bytes = b ∷ w in
    let told : e ≡ record { kind = r.kind b; len = length v } = cc in
    let kind = ap (λ (x : Ended). x.kind) told in
    let long = ap (λ (x : Ended). x.len) told in
    let at_it : place ≡ place_of r.kind (n - 1) v = p ∙ rw (kind, long) (stands_at (loose (r.kind b)) n (length w)) in
    let part : take e.len (drop place text) ≡ v = rw (long, at_it) g.1 in
    record {
      within = rw (long, at_it) (in_text v text (place_of r.kind (n - 1) v) g.0 g.1);
      waits = rw (part, at_it) refl;
      kind = rw (part, kind) refl;
    }
first_waits r text n (w ∷ ws) (suc m) e place h g p =
    let f = first_waits r text n ws m e place h g p in
    let behind : drop (suc m + 1) (w ∷ ws) ≡ drop (m + 1) ws = ap (λ (k : ℕ). drop k (w ∷ ws)) (add-one (suc m)) ∙ ap (λ (k : ℕ). drop k ws) (sym (add-one m)) in
    record { within = f.within; waits = f.waits ∙ ap (λ (vs : List Bytes). record { place = place; word = take e.len (drop place text) } ∷ placed_at r.kind (n - 1) vs) (sym behind); kind = f.kind }
