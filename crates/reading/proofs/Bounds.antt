-- Where words stand: those that bytes have ended lie before the next byte, and those to come do not begin before it.
use Rattle.std.proofs.Common.{◌≡◌, ℕ, suc, ◌+◌, ◌-◌, ◌≤◌, Bool, true, false, cond, ◌&&◌, List, [], ◌∷◌, ◌++◌, length, Some, None, Option, sym, refl, ap, ◌∙◌, subst, ⊎_elim, append_assoc, arith}
use Rattle.std.proofs.lemmas.List.{length-append}
use Rattle.std.proofs.lemmas.Bool.{false≢true, and_parts, and_from, cases_Bool, cond-true, cond-false}
use Rattle.layout.specs.Tokens.{Token}
use Rattle.grammar.specs.Meaning.{Word, end, Answer, refused, gives, granted, words_of, taken, accepted}
use Rattle.rules.specs.declared.word.Kind.{Kind}
use Rattle.rules.specs.declared.word.Inside.{Inside}
use Rattle.rules.specs.declared.word.Begin.{Begin}
use Rattle.rules.specs.declared.word.Begin.TheVariants.{Blank, Sole, Starts, Never as NeverBegins}
use Rattle.rules.specs.declared.word.Turn.{Turn}
use Rattle.rules.specs.declared.word.Turn.TheVariants.{Stays, Closes, Never as NeverTurns}
use Rattle.rules.specs.Rules.{Rules, Place, loose, admits, behind, stand_for}
use Rattle.rules.specs.Machine.{State, Step, dead, on, begun, between, turned, ending, stepped, step, next, run, judged, reply, means, pending, finished, fresh, first_place}
use Rattle.rules.specs.Language.{WrittenBy, nothing, blank_byte, word_then}
use Rattle.rules.specs.Lawful.{Lawful, Begun}
use Rattle.reading.specs.Judging.{WordsInPlace}
use Rattle.reading.specs.Places.{Placed, places, place_of, placed_at, ended_at, words_at}
use Rattle.reading.specs.Accepts.{step_words, placed_from}
use Rattle.reading.proofs.Rest.{Sane}
use Rattle.reading.proofs.Complete.{complete}
use Rattle.reading.proofs.Fit.{Fit, fit_next}
use Rattle.reading.proofs.Steps.{step_word, went}

-- the words that bytes end on the way
abbrev pub so_far : Rules → State → ℕ → List ℕ → List Placed
so_far r s k [] = []
so_far r s k (b ∷ bs) = placed_at r.kind k (step_words (step r s b)) ++ so_far r (next r s (step r s b)) (suc k) bs

pub placed_append : (r : Rules) (s : State) (k : ℕ) (bs cs : List ℕ) → placed_from r s k (bs ++ cs) ≡ so_far r s k bs ++ placed_from r (run r s bs) (k + length bs) cs
placed_append r s k [] cs = ap (λ (n : ℕ). placed_from r s n cs) (omega arith)
placed_append r s k (b ∷ bs) cs =
    let s' : State = next r s (step r s b) in
    let ps : List Placed = placed_at r.kind k (step_words (step r s b)) in
    ap (λ (xs : List Placed). ps ++ xs) (placed_append r s' (suc k) bs cs ∙ ap (λ (n : ℕ). so_far r s' (suc k) bs ++ placed_from r (run r s' bs) n cs) (omega arith))
    ∙ sym (append_assoc ps (so_far r s' (suc k) bs) (placed_from r (run r s' bs) (k + length (b ∷ bs)) cs))

-- words that end by a place, and words that begin at it or later
abbrev pub EndBy : ℕ → List Placed → Type 0
EndBy n [] = Unit {0}
EndBy n (x ∷ xs) = (x.place + length x.word ≤ n) × EndBy n xs

abbrev pub BeginAt : ℕ → List Placed → Type 0
BeginAt n [] = Unit {0}
BeginAt n (x ∷ xs) = (n ≤ x.place) × BeginAt n xs

end_append : (n : ℕ) (xs ys : List Placed) → EndBy n xs → EndBy n ys → EndBy n (xs ++ ys)
end_append n [] ys h k = k
end_append n (x ∷ xs) ys h k = (h.0, end_append n xs ys h.1 k)

end_later : (n m : ℕ) (xs : List Placed) → n ≤ m → EndBy n xs → EndBy m xs
end_later n m [] l h = tt
end_later n m (x ∷ xs) l h = (let e = h.0 in omega arith, end_later n m xs l h.1)

pub begin_later : (n m : ℕ) (xs : List Placed) → m ≤ n → BeginAt n xs → BeginAt m xs
begin_later n m [] l h = tt
begin_later n m (x ∷ xs) l h = (let e = h.0 in omega arith, begin_later n m xs l h.1)

pub places_begin : (r : Rules) (ws : List Word) (bs : List ℕ) (k : ℕ) (wr : WrittenBy r ws bs) → BeginAt k (places k wr)
places_begin r [] [] k nothing = tt
places_begin r ws (b ∷ bs) k (blank_byte c e wr) = begin_later (suc k) k (places (suc k) wr) (omega arith) (places_begin r ws bs (suc k) wr)
places_begin r (w ∷ ws) bs k (word_then v rest sp e fo wr) = (omega arith, begin_later (k + length w) k (places (k + length w) wr) (omega arith) (places_begin r ws rest (k + length w) wr))

-- the words that a step ends are no longer than the bytes before them
place_ends : (kind : ℕ → Kind) (k : ℕ) (w : Word) → length w ≤ k → place_of kind k w + length w ≤ suc k
place_ends kind k [] h = omega arith
place_ends kind k (b ∷ w) h = ⊎_elim
    (λ e. let f = cond-true (loose (kind b)) (k - length (b ∷ w)) (suc k - length (b ∷ w)) e in omega arith)
    (λ e. let f = cond-false (loose (kind b)) (k - length (b ∷ w)) (suc k - length (b ∷ w)) e in omega arith)
    (cases_Bool (loose (kind b)))

strict_ends : (kind : ℕ → Kind) (k b : ℕ) (w : Word) → loose (kind b) ≡ false → length (b ∷ w) ≤ suc k → place_of kind k (b ∷ w) + length (b ∷ w) ≤ suc k
strict_ends kind k b w e h = let f = cond-false (loose (kind b)) (k - length (b ∷ w)) (suc k - length (b ∷ w)) e in omega arith

-- what a step at place k ends, and the word that it leaves under way, lie before the next place
abbrev EndStep : Rules → ℕ → Step → Type 0
EndStep r k st = EndBy (suc k) (placed_at r.kind k (step_words st)) × (length (step_word st) ≤ suc k)

end_begun : (r : Rules) → Lawful r → (k b : ℕ) (x : Begin) (a : Bool) → r.begins b ≡ x → EndStep r k (begun a x b)
end_begun r l k b Blank a e = (tt, omega arith)
end_begun r l k b Sole true e = ((strict_ends r.kind k b [] (l.sole_not_loose b e) (omega arith), tt), omega arith)
end_begun r l k b Sole false e = (tt, omega arith)
end_begun r l k b (Starts i) true e = (tt, omega arith)
end_begun r l k b (Starts i) false e = (tt, omega arith)
end_begun r l k b NeverBegins a e = (tt, omega arith)

end_ending : (r : Rules) (k : ℕ) (w : Word) (st : Step) → length w ≤ k → EndStep r k st → EndStep r k (ending w st)
end_ending r k w dead h e = (tt, omega arith)
end_ending r k w (on io v ws) h e = ((place_ends r.kind k w h, e.0), e.1)

end_cond : (r : Rules) (k : ℕ) (t : Bool) (st : Step) → EndStep r k st → EndStep r k (cond t st dead)
end_cond r k true st e = e
end_cond r k false st e = (tt, omega arith)

end_turned : (r : Rules) → Lawful r → (k : ℕ) (p : Place) (i : Inside) (b : ℕ) (v : Word) (c : ℕ) → Begun r i (b ∷ v) → length (b ∷ v) ≤ k → (x : Turn) → r.turns i (b ∷ v) c ≡ x → EndStep r k (turned r p i (b ∷ v) c x)
end_turned r l k p i b v c g h (Stays j) e = (tt, let n = length-append (b ∷ v) (c ∷ []) in omega arith)
end_turned r l k p i b v c g h Closes e =
    let n = length-append (b ∷ v) (c ∷ []) in
    ((strict_ends r.kind k b (v ++ c ∷ []) (l.closed_not_loose i b c v g e) (omega arith), tt), omega arith)
end_turned r l k p i b v c g h NeverTurns e =
    let w : Word = b ∷ v in
    let q : Place = behind r p w in
    end_cond r k (r.whole i w && r.delimits c) (ending w (between r q c)) (end_ending r k w (between r q c) h (end_begun r l k c (r.begins c) (admits r q c) refl))

end_stepped : (r : Rules) → Lawful r → (k : ℕ) (p : Place) (io : Option Inside) (w : Word) (b : ℕ) → Sane r p io w → length w ≤ k → EndStep r k (stepped r p io w b)
end_stepped r l k p None w b sane h = end_begun r l k b (r.begins b) (admits r p b) refl
end_stepped r l k p (Some i) [] b sane h = absurd sane
end_stepped r l k p (Some i) (c ∷ v) b sane h = end_turned r l k p i c v b sane.0 h (r.turns i (c ∷ v) b) refl

next_word : (r : Rules) (s : State) (k : ℕ) (st : Step) → length s.word ≤ k → length (step_word st) ≤ suc k → length (next r s st).word ≤ suc k
next_word r s k dead h e = omega arith
next_word r s k (on io w ws) h e = e

-- so far
pub record Behind (r : Rules) (s : State) (k : ℕ) (bs : List ℕ) : Type 0 where
  pub ends : EndBy (k + length bs) (so_far r s k bs)
  pub fits : length (run r s bs).word ≤ k + length bs

pub behind_bytes : (r : Rules) → Lawful r → (s : State) (k : ℕ) (bs : List ℕ) → Fit r s → length s.word ≤ k → Behind r s k bs
behind_bytes r l s k [] f h = record { ends = tt; fits = omega arith }
behind_bytes r l s k (b ∷ bs) f h =
    let st : Step = step r s b in
    let e = end_stepped r l k s.place s.inside s.word b f.0 h in
    let n = behind_bytes r l (next r s st) (suc k) bs (fit_next r s b f) (next_word r s k st h e.1) in
    let same : suc k + length bs ≡ k + length (b ∷ bs) = omega arith in
    let ps : List Placed = placed_at r.kind k (step_words st) in
    record {
      ends = end_append (k + length (b ∷ bs)) ps (so_far r (next r s st) (suc k) bs) (end_later (suc k) (k + length (b ∷ bs)) ps (omega arith) e.0) (subst (λ (m : ℕ). EndBy m (so_far r (next r s st) (suc k) bs)) same n.ends);
      fits = subst (λ (m : ℕ). length (run r (next r s st) bs).word ≤ m) same n.fits;
    }

-- the words that the machine ends, in their places, are those of its meaning
granted_words : (x : Bool) (kind : ℕ → Kind) (n m : ℕ) (ws : List Word) (ts : List Token) → n ≡ m → granted (cond x (gives ws ts) (refused 6)) ≡ true → placed_at kind n (words_of (cond x (gives ws ts) (refused 6))) ≡ placed_at kind m ws
granted_words true kind n m ws ts e h = ap (λ (k : ℕ). placed_at kind k ws) e
granted_words false kind n m ws ts e h = absurd (false≢true h)

meant_places : (r : Rules) (s : State) (k : ℕ) (bs : List ℕ) → accepted (means r s) bs ≡ true → words_at r.kind (means r s) k bs ≡ placed_from r s k bs
meant_places r s k [] h =
    let ws : List Word = pending s.inside s.word in
    granted_words (finished r s.place s.inside s.word) r.kind (k + 0) k ws (stand_for r s.place ws) (omega arith) h
meant_places r s k (b ∷ bs) h =
    let st : Step = step r s b in
    let s' : State = next r s st in
    let p = and_parts (taken (means r s) (b ∷ bs)) (granted (reply r (run r s' bs) end)) h in
    let q = and_parts (granted (judged r s st)) (taken (means r s') bs) p.0 in
    let w = went r s st q.0 in
    let last : List Word = words_of (reply r (run r s' bs) end) in
    let rec = meant_places r s' (suc k) bs (and_from (taken (means r s') bs) (granted (reply r (run r s' bs) end)) q.1 p.1) in
    append_assoc (placed_at r.kind k (words_of (judged r s st))) (ended_at r.kind (means r s') (suc k) bs) (placed_at r.kind (k + length (b ∷ bs)) last)
    ∙ (ap (λ (a : Answer). placed_at r.kind k (words_of a) ++ (ended_at r.kind (means r s') (suc k) bs ++ placed_at r.kind (k + length (b ∷ bs)) last)) w.answered
    ∙ (ap (λ (n : ℕ). placed_at r.kind k (step_words st) ++ (ended_at r.kind (means r s') (suc k) bs ++ placed_at r.kind n last)) (omega arith)
    ∙ ap (λ (xs : List Placed). placed_at r.kind k (step_words st) ++ xs) rec))

pub words_in_place : (r : Rules) → Lawful r → WordsInPlace r
words_in_place r l bs ws text sentence h = meant_places r (fresh r) 0 bs h ∙ (complete r l bs (first_place r) None [] ws tt (text, sentence)).1 0
