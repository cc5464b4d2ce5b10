-- Open blocks, and the reach of a token, as tokens come.
use Rattle.std.proofs.Common.{◌≡◌, ℕ, zero, suc, pred, ◌+◌, ◌<◌, ◌≤◌, Bool, true, false, cond, not, ◌||◌, ◌&&◌, eqb, List, [], ◌∷◌, ◌++◌, refl, arith}
use Rattle.std.proofs.lemmas.Bool.Decides.{nat_tests}
use Rattle.layout.specs.Tokens.{Token, Text, Break, Opening, Ending, width, widths, reached, before_reach, nest}
use Rattle.stream.specs.Recorded.{deeper}

-- a token that is no Break moves no reach
abbrev pub quiet : Token → Bool
quiet (Text bytes) = true
quiet (Break blanks offset) = false
quiet (Opening offset fold anchor) = true
quiet Ending = true

-- One token more in front: a Break is the reach where no block is open.
pub nest_deeper : (d : ℕ) (t : Token) (ts : List Token) → nest (deeper d t) ts ≡ nest d (t ∷ ts)
nest_deeper d (Text bytes) ts = refl
nest_deeper d (Break blanks offset) ts = refl
nest_deeper d (Opening offset fold anchor) ts = refl
nest_deeper d Ending ts = refl

reached_step : (n : ℕ) (t : Token) (ts : List Token) → reached n (t ∷ ts) ≡ ((not (quiet t) && eqb n 0) || reached (deeper n t) ts)
reached_step n (Text bytes) ts = refl
reached_step zero (Break blanks offset) ts = refl
reached_step (suc n) (Break blanks offset) ts = grind (arith, nat_tests)
reached_step n (Opening offset fold anchor) ts = refl
reached_step n Ending ts = refl

before_step : (n : ℕ) (t : Token) (ts : List Token) → before_reach n (t ∷ ts) ≡ cond (not (quiet t) && eqb n 0) 0 (width t + before_reach (deeper n t) ts)
before_step n (Text bytes) ts = refl
before_step zero (Break blanks offset) ts = refl
before_step (suc n) (Break blanks offset) ts = grind (arith, nat_tests)
before_step n (Opening offset fold anchor) ts = omega arith
before_step n Ending ts = omega arith

pub reached_quiet : (n : ℕ) (ts : List Token) (x : Token) → quiet x ≡ true → reached n (ts ++ x ∷ []) ≡ reached n ts
reached_quiet n [] x q = grind (arith, nat_tests, reached_step n x [])
reached_quiet n (t ∷ ts) x q = grind (arith, nat_tests, reached_step n t ts, reached_step n t (ts ++ x ∷ []), reached_quiet (deeper n t) ts x q)

pub reached_break : (n : ℕ) (ts : List Token) (b : ℕ) (o : _) → nest n ts ≡ 0 → reached n (ts ++ Break b o ∷ []) ≡ true
reached_break n [] b o h = grind (arith, nat_tests, reached_step n (Break b o) [])
reached_break n (t ∷ ts) b o h = grind (arith, nat_tests, nest_deeper n t ts, reached_step n t (ts ++ Break b o ∷ []), reached_break (deeper n t) ts b o)

pub unreached_break : (n : ℕ) (ts : List Token) (b : ℕ) (o : _) → reached n ts ≡ false → 0 < nest n ts → reached n (ts ++ Break b o ∷ []) ≡ false
unreached_break n [] b o r h = grind (arith, nat_tests, reached_step n (Break b o) [])
unreached_break n (t ∷ ts) b o r h = grind (arith, nat_tests, nest_deeper n t ts, reached_step n t ts, reached_step n t (ts ++ Break b o ∷ []), unreached_break (deeper n t) ts b o)

-- the size that a Break settles is all the widths before it
pub before_break : (n : ℕ) (ts : List Token) (b : ℕ) (o : _) → reached n ts ≡ false → nest n ts ≡ 0 → before_reach n (ts ++ Break b o ∷ []) ≡ widths ts
before_break n [] b o r h = grind (arith, nat_tests, before_step n (Break b o) [])
before_break n (t ∷ ts) b o r h = grind (arith, nat_tests, nest_deeper n t ts, reached_step n t ts, before_step n t (ts ++ Break b o ∷ []), before_break (deeper n t) ts b o)

pub nest_append : (n : ℕ) (ts us : List Token) → nest n (ts ++ us) ≡ nest (nest n ts) us
nest_append n [] us = refl
nest_append n (t ∷ ts) us = grind (arith, nest_deeper n t ts, nest_deeper n t (ts ++ us), nest_append (deeper n t) ts us)

-- j more blocks before are at most j more after, and no fewer
pub nest_most : (n k j : ℕ) (ts : List Token) → k ≤ n + j → nest k ts ≤ nest n ts + j
nest_most n k j [] h = h
nest_most n k j (Text bytes ∷ ts) h = nest_most n k j ts h
nest_most n k j (Break blanks offset ∷ ts) h = nest_most n k j ts h
nest_most n k j (Opening offset fold anchor ∷ ts) h = nest_most (suc n) (suc k) j ts (omega arith)
nest_most n k j (Ending ∷ ts) h = nest_most (pred n) (pred k) j ts (omega arith)

-- blocks that were open before a block that is still open are open too
pub nest_shift : (n k d : ℕ) (ts : List Token) → nest 0 ts < nest n ts → k ≡ n + d → nest k ts ≡ nest n ts + d
nest_shift n k d [] h e = e
nest_shift n k d (Text bytes ∷ ts) h e = nest_shift n k d ts h e
nest_shift n k d (Break blanks offset ∷ ts) h e = nest_shift n k d ts h e
nest_shift n k d (Opening offset fold anchor ∷ ts) h e = let l = nest_most 1 0 0 ts (omega arith) in nest_shift (suc n) (suc k) d ts (omega arith) (omega arith)
nest_shift zero k d (Ending ∷ ts) h e = absurd (omega arith)
nest_shift (suc n) k d (Ending ∷ ts) h e = nest_shift n (pred k) d ts h (omega arith)

-- past its reach, a token's own block is closed
pub nest_reached : (n : ℕ) (ts : List Token) → reached n ts ≡ true → nest n ts ≡ nest 0 ts
nest_reached n [] r = grind (arith, nat_tests)
nest_reached n (t ∷ ts) r =
    let l = nest_most 0 1 1 ts (omega arith) in
    let m = nest_most (suc n) 1 0 ts (omega arith) in
    let k = nest_most 1 0 0 ts (omega arith) in
    grind (arith, nat_tests, nest_deeper n t ts, nest_deeper 0 t ts, reached_step n t ts, nest_reached (deeper n t) ts)
