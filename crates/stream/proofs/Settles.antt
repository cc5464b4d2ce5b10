-- What becomes of records and places as a token comes.
use Rattle.std.proofs.Common.{◌≡◌, ℕ, zero, suc, pred, ◌+◌, ◌<◌, ◌≤◌, true, false, cond, ◌&&◌, ltb, ◌⊎◌, List, [], ◌∷◌, ◌++◌, length, take, ℤ, refl, inl, inr, None, arith}
use Rattle.std.proofs.lemmas.Grind.{common_steps}
use Rattle.std.proofs.lemmas.Bool.{or_parts, not-true}
use Rattle.std.proofs.lemmas.Bool.Decides.{nat_tests}
use Rattle.layout.specs.Tokens.{Token, Text, Break, Opening, Ending, width, widths, opens, reached, free, nest}
use Rattle.layout.proofs.Passes.{reached_more, before_more}
use Rattle.stream.specs.declared.record.Place.{Place}
use Rattle.stream.specs.Recorded.{waiting, extent, slotted, recorded, deeper, waits}
use Rattle.stream.specs.Settling.{keeps, mixed}
pub use Rattle.stream.proofs.Nests.{nest_deeper}
use Rattle.stream.proofs.Nests.{quiet, reached_quiet, reached_break, unreached_break, before_break, nest_most, nest_reached}

-- a waiting token is not free, and its reach has not come
pub waiting_true : (t : Token) (ts : List Token) → waiting t ts ≡ true → (free t ≡ false) × (reached (opens t) ts ≡ false)
waiting_true t ts w = or_parts (free t) _ (not-true _ w)

-- a settled token stays as it is
settled_stays : (t : Token) (ts us : List Token) → waiting t ts ≡ false → (waiting t (ts ++ us) ≡ false) × (extent t (ts ++ us) ≡ extent t ts)
settled_stays t ts us w = (grind (arith, nat_tests, reached_more (opens t) ts us), grind (arith, nat_tests, reached_more (opens t) ts us, before_more (opens t) ts us))

-- a token that is no Break settles nothing
extent_quiet : (t : Token) (ts : List Token) (x : Token) → quiet x ≡ true → (waiting t (ts ++ x ∷ []) ≡ waiting t ts) × (extent t (ts ++ x ∷ []) ≡ extent t ts)
extent_quiet t ts x q = (grind (arith, nat_tests, reached_quiet (opens t) ts x q), grind (arith, nat_tests, reached_quiet (opens t) ts x q, settled_stays t ts (x ∷ [])))

pub recorded_quiet : (h : List Token) (x : Token) → quiet x ≡ true → recorded (h ++ x ∷ []) ≡ recorded h ++ slotted x (extent x []) ∷ []
recorded_quiet [] x q = refl
recorded_quiet (t ∷ ts) x q = grind (arith, extent_quiet t ts x q, recorded_quiet ts x q)

-- the places that a last token brings
abbrev pub own : ℕ → ℕ → ℕ → Token → List Place
own k b d x = waits k b d (x ∷ [])

pub waits_quiet : (k b d : ℕ) (h : List Token) (x : Token) → quiet x ≡ true → waits k b d (h ++ x ∷ []) ≡ waits k b d h ++ own (k + length h) (b + widths h) (nest d h) x
waits_quiet k b d [] x q = grind (arith, common_steps)
waits_quiet k b d (t ∷ ts) x q = grind (arith, common_steps, nest_deeper d t ts, extent_quiet t ts x q, waits_quiet (suc k) (b + width t) (deeper d t) ts x q)

-- no block opened since, no waiting token is kept; some, and one is
pub nest_step : (t : Token) (ts : List Token) → waiting t ts ≡ true → nest 0 (t ∷ ts) ≡ nest (opens t) ts
nest_step (Text bytes) ts w = refl
nest_step (Break blanks offset) ts w = refl
nest_step (Opening offset fold anchor) ts w = refl
nest_step Ending ts w = refl

pub nest_rest : (t : Token) (ts : List Token) → nest 0 ts ≤ nest 0 (t ∷ ts)
nest_rest (Text bytes) ts = omega arith
nest_rest (Break blanks offset) ts = omega arith
nest_rest (Opening offset fold anchor) ts = let l = nest_most 1 0 0 ts (omega arith) in omega arith
nest_rest Ending ts = omega arith

pub none_kept : (ts : List Token) → nest 0 ts ≡ 0 → keeps ts ≡ 0
none_kept [] h = refl
none_kept (t ∷ ts) h = grind (arith, nat_tests, nest_rest t ts, nest_step t ts, none_kept ts)

pub some_kept : (ts : List Token) → 0 < nest 0 ts → 0 < keeps ts
some_kept [] h = h
some_kept (Text bytes ∷ ts) h = some_kept ts h
some_kept (Break blanks offset ∷ ts) h = grind (arith, nat_tests, some_kept ts h)
some_kept (Opening offset fold anchor ∷ ts) h = grind (arith, nat_tests, nest_reached 1 ts, some_kept ts)
some_kept (Ending ∷ ts) h = some_kept ts h

pub cases_nest : (n : ℕ) → (n ≡ 0) ⊎ (0 < n)
cases_nest zero = inl refl
cases_nest (suc n) = inr (omega arith)

-- a Break settles the tokens that it does not keep
break_waits : (t : Token) (ts : List Token) (n : ℕ) (o : ℤ) → waiting t (ts ++ Break n o ∷ []) ≡ (waiting t ts && ltb 0 (nest (opens t) ts))
break_waits t ts n o = grind (arith, nat_tests, reached_more (opens t) ts (Break n o ∷ []), reached_break (opens t) ts n o, unreached_break (opens t) ts n o, cases_nest (nest (opens t) ts))

pub waits_break : (k b d : ℕ) (h : List Token) (n : ℕ) (o : ℤ) → waits k b d (h ++ Break n o ∷ []) ≡ take (keeps h) (waits k b d h) ++ own (k + length h) (b + widths h) (nest d h) (Break n o)
waits_break k b d [] n o = grind (arith, common_steps)
waits_break k b d (t ∷ ts) n o = grind (arith, common_steps, nest_deeper d t ts, break_waits t ts n o, nest_rest t ts, nest_step t ts, none_kept ts, waits_break (suc k) (b + width t) (deeper d t) ts n o)

-- with none settled yet, the records stand for the tokens
pub mixed_all : (c k b d : ℕ) (h : List Token) → length (waits k b d h) ≤ c → mixed c h ≡ recorded h
mixed_all c k b d [] l = refl
mixed_all c k b d (t ∷ ts) l = grind (arith, common_steps, mixed_all (cond (waiting t ts) (pred c) c) (suc k) (b + width t) (deeper d t) ts)

-- with all settled that a Break settles, they stand for the tokens with that Break
pub mixed_break : (h : List Token) (n : ℕ) (o : ℤ) → mixed (keeps h) h ++ slotted (Break n o) None ∷ [] ≡ recorded (h ++ Break n o ∷ [])
mixed_break [] n o = refl
mixed_break (t ∷ ts) n o = grind (arith, common_steps, break_waits t ts n o, settled_stays t ts (Break n o ∷ []), before_break (opens t) ts n o, nest_rest t ts, nest_step t ts, none_kept ts, mixed_break ts n o)
