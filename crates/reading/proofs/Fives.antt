-- Refusal 5 comes exactly at a 65th open bracket.
use Rattle.std.proofs.Common.{◌≡◌, ℕ, suc, ◌+◌, ◌<◌, ◌≤◌, Bool, true, false, cond, ◌&&◌, leb, ◌⊎◌, List, [], ◌∷◌, ◌++◌, length, Some, None, Option, sym, refl, ap, ◌∙◌, subst, inl, inr, ⊎_elim, arith}
use Rattle.std.proofs.lemmas.List.{append-nil}
use Rattle.std.proofs.lemmas.Bool.{both_ways, false≢true, true≢false, and_parts, and_from, and_left, and_right, and_cases, cond-true, cond-false}
use Rattle.layout.specs.Tokens.{Token}
use Rattle.grammar.specs.Meaning.{Word, refused, gives, granted, taken, ended}
use Rattle.grammar.specs.Laws.{most_open}
use Rattle.rules.specs.declared.word.Inside.{Inside}
use Rattle.rules.specs.declared.word.Begin.{Begin}
use Rattle.rules.specs.declared.word.Begin.TheVariants.{Blank, Sole, Starts, Never as NeverBegins}
use Rattle.rules.specs.declared.word.Turn.{Turn}
use Rattle.rules.specs.declared.word.Turn.TheVariants.{Stays, Closes, Never as NeverTurns}
use Rattle.rules.specs.declared.place.Bracket.{Bracket}
use Rattle.rules.specs.declared.place.Move.{Move}
use Rattle.rules.specs.Rules.{Rules, Place, innermost, moves_at, admits, placed, moved, behind, behind_all, stand_for}
use Rattle.rules.specs.Machine.{State, Step, dead, on, begun, between, turned, ending, stepped, step, next, run, judged, means, fresh, first_place, grammar_of, short, all_short, low, all_low}
use Rattle.rules.specs.Language.{WrittenBy, blank_byte, word_then, Follows, spelled, spelled_begin, spelled_on, parses}
use Rattle.rules.specs.Lawful.{Lawful, Begun, first_byte, one_more}
use Rattle.reading.specs.Places.{Placed, places, placed_at}
use Rattle.reading.specs.Accepts.{at, step_words, placed_from}
use Rattle.reading.specs.Judging.{OpensTooMany, FiveIfDeep}
use Rattle.reading.proofs.Rest.{Live, Sane, Rest, same_head, not_empty}
use Rattle.reading.proofs.Complete.{complete, rest_places, words_in, words_append, words_placed, strict_place, loose_follows}
use Rattle.reading.proofs.Fit.{fit_fresh}
use Rattle.reading.proofs.Steps.{Went, went}
use Rattle.reading.proofs.Tokens.{behind_append}
use Rattle.reading.proofs.Shows.{gave}
use Rattle.reading.proofs.Bounds.{so_far, EndBy, BeginAt, places_begin}
use Rattle.reading.proofs.Fours.{goes_on}

-- the first byte of a word under way starts it, so the word opens and closes no bracket
abbrev StartsFirst : Rules → Word → Type 0
StartsFirst r [] = ⊥
StartsFirst r (b ∷ v) = (i : Inside) × (r.begins b ≡ Starts i)

starts_longer : (r : Rules) (w : Word) (c : ℕ) → StartsFirst r w → StartsFirst r (w ++ c ∷ [])
starts_longer r [] c h = absurd h
starts_longer r (b ∷ v) c h = h

starts_first : (r : Rules) (i : Inside) (w : Word) → Begun r i w → StartsFirst r w
starts_first r i w (first_byte j b e) = (j, e)
starts_first r i w (one_more j k v u b g e same) = subst (StartsFirst r) (sym same) (starts_longer r v b (starts_first r j v g))

stays_among : (r : Rules) → Lawful r → (p : Place) (b : ℕ) (i : Inside) → r.begins b ≡ Starts i → (o : Option Move) → moves_at r p b ≡ o → (placed o p).brackets ≡ p.brackets
stays_among r l p b i e None h = refl
stays_among r l p b i e (Some m) h =
    let x = l.started_stays b i p.expects (innermost p.brackets) m e h in
    ap (λ (n : Move). (moved n p.brackets).brackets) x.1

low_behind : (r : Rules) → Lawful r → (p : Place) (b : ℕ) (v : Word) (i : Inside) → r.begins b ≡ Starts i → low (behind r p (b ∷ v)) ≡ low p
low_behind r l p b v i e = ap (λ (ks : List Bracket). leb (length ks) most_open) (stays_among r l p b i e (moves_at r p b) refl)

pub low_live : (r : Rules) → Lawful r → (p : Place) (i : Inside) (w v : Word) → Live r p i w → low p ≡ true → low (behind r p (w ++ v)) ≡ true
low_live r l p i [] v live h = absurd live
low_live r l p i (b ∷ w) v live h = let s = starts_first r i (b ∷ w) live.0 in low_behind r l p b (w ++ v) s.0 s.1 ∙ h

-- only too many brackets are refused by 5
five_cond : (x y : Bool) (ws : List Word) (ts : List Token) → cond x (cond y (gives ws ts) (refused 5)) (refused 4) ≡ refused 5 → y ≡ false
five_cond true true ws ts e = cc
five_cond true false ws ts e = refl
five_cond false y ws ts e = cc

five_low : (r : Rules) (s : State) (st : Step) → judged r s st ≡ refused 5 → all_low r s.place (step_words st) ≡ false
five_low r s dead e = cc
five_low r s (on io w ws) e = five_cond (all_short (w ∷ ws)) (all_low r s.place ws) ws (stand_for r s.place ws) e

low_five : (r : Rules) (s : State) (io : Option Inside) (w : Word) (ws : List Word) → all_short (w ∷ ws) ≡ true → all_low r s.place ws ≡ false → judged r s (on io w ws) ≡ refused 5
low_five r s io w ws x y =
    let ts : List Token = stand_for r s.place ws in
    cond-true (all_short (w ∷ ws)) (cond (all_low r s.place ws) (gives ws ts) (refused 5)) (refused 4) x ∙ cond-false (all_low r s.place ws) (gives ws ts) (refused 5) y

-- what is behind x but false is false
second_false : (x y : Bool) → x ≡ true → (x && y) ≡ false → y ≡ false
second_false x y h e = ⊎_elim (λ f. absurd (both_ways x f h)) (λ f. f) (and_cases x y e)

first_false : (x : Bool) → (x && true) ≡ false → x ≡ false
first_false true e = e
first_false false e = refl

-- a step behind which too many brackets are open: the byte is a word of its own
five_begun : (r : Rules) → Lawful r → (p : Place) (k b : ℕ) (ps : List Placed) (x : Begin) (a : Bool) → r.begins b ≡ x → all_low r p (step_words (begun a x b)) ≡ false → OpensTooMany r p k b (placed_at r.kind k (step_words (begun a x b)) ++ ps)
five_begun r l p k b ps Blank a e h = absurd (true≢false h)
five_begun r l p k b ps Sole true e h = inl (strict_place r k b [] (l.sole_not_loose b e) ∙ omega arith, refl, first_false (low (behind r p (b ∷ []))) h)
five_begun r l p k b ps Sole false e h = absurd (true≢false h)
five_begun r l p k b ps (Starts i) true e h = absurd (true≢false h)
five_begun r l p k b ps (Starts i) false e h = absurd (true≢false h)
five_begun r l p k b ps NeverBegins a e h = absurd (true≢false h)

five_ending : (r : Rules) (p : Place) (k b : ℕ) (ps : List Placed) (w : Word) (st : Step) → low (behind r p w) ≡ true → (all_low r (behind r p w) (step_words st) ≡ false → OpensTooMany r (behind r p w) k b (placed_at r.kind k (step_words st) ++ ps))
    → all_low r p (step_words (ending w st)) ≡ false → OpensTooMany r p k b (placed_at r.kind k (step_words (ending w st)) ++ ps)
five_ending r p k b ps w dead h f e = absurd (true≢false e)
five_ending r p k b ps w (on io v ws) h f e = inr (f (second_false (low (behind r p w)) (all_low r (behind r p w) ws) h e))

five_when : (r : Rules) (p : Place) (k b : ℕ) (ps : List Placed) (t : Bool) (st : Step) → (all_low r p (step_words st) ≡ false → OpensTooMany r p k b (placed_at r.kind k (step_words st) ++ ps))
    → all_low r p (step_words (cond t st dead)) ≡ false → OpensTooMany r p k b (placed_at r.kind k (step_words (cond t st dead)) ++ ps)
five_when r p k b ps true st f e = f e
five_when r p k b ps false st f e = absurd (true≢false e)

five_turned : (r : Rules) → Lawful r → (p : Place) (i : Inside) (w : Word) (k b : ℕ) (ps : List Placed) → Live r p i w → low p ≡ true → (t : Turn) → all_low r p (step_words (turned r p i w b t)) ≡ false → OpensTooMany r p k b (placed_at r.kind k (step_words (turned r p i w b t)) ++ ps)
five_turned r l p i w k b ps live h (Stays j) e = absurd (true≢false e)
five_turned r l p i w k b ps live h Closes e = absurd (both_ways (low (behind r p (w ++ b ∷ []))) (first_false (low (behind r p (w ++ b ∷ []))) e) (low_live r l p i w (b ∷ []) live h))
five_turned r l p i w k b ps live h NeverTurns e =
    let q : Place = behind r p w in
    let st : Step = between r q b in
    let lo : low q ≡ true = ap (λ (v : Word). low (behind r p v)) (sym (append-nil w)) ∙ low_live r l p i w [] live h in
    five_when r p k b ps (r.whole i w && r.delimits b) (ending w st) (five_ending r p k b ps w st lo (five_begun r l q k b ps (r.begins b) (admits r q b) refl)) e

five_stepped : (r : Rules) → Lawful r → (p : Place) (io : Option Inside) (w : Word) (k b : ℕ) (ps : List Placed) → Sane r p io w → low p ≡ true → all_low r p (step_words (stepped r p io w b)) ≡ false → OpensTooMany r p k b (placed_at r.kind k (step_words (stepped r p io w b)) ++ ps)
five_stepped r l p None w k b ps sane h e = five_begun r l p k b ps (r.begins b) (admits r p b) refl e
five_stepped r l p (Some i) w k b ps sane h e = five_turned r l p i w k b ps sane h (r.turns i w b) e

-- what stands before and behind
opens_right : (r : Rules) (p : Place) (n b : ℕ) (xs ys : List Placed) → OpensTooMany r (behind_all r p (words_in xs)) n b ys → OpensTooMany r p n b (xs ++ ys)
opens_right r p n b [] ys h = h
opens_right r p n b (x ∷ xs) ys h = inr (opens_right r (behind r p x.word) n b xs ys h)

opens_cases : (r : Rules) (p : Place) (n b : ℕ) (xs ys : List Placed) → OpensTooMany r p n b (xs ++ ys) → OpensTooMany r p n b xs ⊎ OpensTooMany r (behind_all r p (words_in xs)) n b ys
opens_cases r p n b [] ys h = inr h
opens_cases r p n b (x ∷ xs) ys (inl h) = inl (inl h)
opens_cases r p n b (x ∷ xs) ys (inr h) = ⊎_elim (λ k. inl (inr k)) (λ k. inr k) (opens_cases r (behind r p x.word) n b xs ys h)

opens_not_ended : (r : Rules) (p : Place) (n b : ℕ) (xs : List Placed) → EndBy n xs → OpensTooMany r p n b xs → ⊥
opens_not_ended r p n b [] e h = h
opens_not_ended r p n b (x ∷ xs) e (inl h) =
    let a = e.0 in let q = h.0 in let s = ap (λ (w : Word). length w) h.1 in omega arith
opens_not_ended r p n b (x ∷ xs) e (inr h) = opens_not_ended r (behind r p x.word) n b xs e.1 h

opens_not_later : (r : Rules) (p : Place) (n m b : ℕ) (xs : List Placed) → n < m → BeginAt m xs → OpensTooMany r p n b xs → ⊥
opens_not_later r p n m b [] l e h = h
opens_not_later r p n m b (x ∷ xs) l e (inl h) = let a = e.0 in let q = h.0 in omega arith
opens_not_later r p n m b (x ∷ xs) l e (inr h) = opens_not_later r (behind r p x.word) n m b xs l e.1 h

-- a text that begins with that byte: it is a word of its own, which may stand there
abbrev OpensHere : Rules → Place → ℕ → Type 0
OpensHere r q b = (r.begins b ≡ Sole) × (admits r q b ≡ true) × (low (behind r q (b ∷ [])) ≡ false)

here_begins : (r : Rules) → Lawful r → (q : Place) (b : ℕ) (x : Begin) → r.begins b ≡ x → spelled_begin r b [] x ≡ true → admits r q b ≡ true → low q ≡ true → low (behind r q (b ∷ [])) ≡ false → OpensHere r q b
here_begins r l q b Blank e sp a h f = absurd (false≢true sp)
here_begins r l q b Sole e sp a h f = (e, a, f)
here_begins r l q b (Starts i) e sp a h f = absurd (both_ways (low (behind r q (b ∷ []))) f (low_behind r l q b [] i e ∙ h))
here_begins r l q b NeverBegins e sp a h f = absurd (false≢true sp)

opens_here : (r : Rules) → Lawful r → (q : Place) (k b : ℕ) (bs : List ℕ) (ws : List Word) (wr : WrittenBy r ws (b ∷ bs)) → parses r q ws ≡ true → low q ≡ true → OpensTooMany r q k b (places k wr) → OpensHere r q b
opens_here r l q k b bs ws (blank_byte c e wr) f h x = absurd (opens_not_later r q k (suc k) b (places (suc k) wr) (omega arith) (places_begin r ws bs (suc k) wr) x)
opens_here r l q k b bs (w ∷ ws) (word_then v rest sp e fo wr) f h (inl x) =
    let g : parses r q ((b ∷ []) ∷ ws) ≡ true = ap (λ (u : Word). parses r q (u ∷ ws)) (sym x.1) ∙ f in
    here_begins r l q b (r.begins b) refl (ap (spelled r) (sym x.1) ∙ sp) (and_parts (admits r q b) _ g).0 h (ap (λ (u : Word). low (behind r q u)) (sym x.1) ∙ x.2)
opens_here r l q k b bs ([] ∷ ws) (word_then v rest sp e fo wr) f h (inr x) = absurd (false≢true sp)
opens_here r l q k b bs ((c ∷ w) ∷ ws) (word_then v rest sp e fo wr) f h (inr x) =
    let n : ℕ = k + length (c ∷ w) in
    absurd (opens_not_later r (behind r q (c ∷ w)) k n b (places n wr) (omega arith) (places_begin r ws rest n wr) x)

sole_step : (r : Rules) (q : Place) (b : ℕ) → OpensHere r q b → between r q b ≡ on None [] ((b ∷ []) ∷ [])
sole_step r q b h = ap (λ (x : Begin). begun (admits r q b) x b) h.0 ∙ cond-true (admits r q b) (on None [] ((b ∷ []) ∷ [])) dead h.1

deep_between : (r : Rules) (io : Option Inside) (w : Word) (q : Place) (b : ℕ) → OpensHere r q b → judged r (at q io w) (between r q b) ≡ refused 5
deep_between r io w q b h =
    ap (judged r (at q io w)) (sole_step r q b h) ∙ low_five r (at q io w) None [] ((b ∷ []) ∷ []) refl (and_left (low (behind r q (b ∷ []))) true h.2)

deep_over : (r : Rules) → Lawful r → (p : Place) (i : Inside) (w : Word) (b : ℕ) → short w ≡ true → r.whole i w ≡ true → r.delimits b ≡ true → OpensHere r (behind r p w) b → judged r (at p (Some i) w) (stepped r p (Some i) w b) ≡ refused 5
deep_over r l p i w b small whole del h =
    let q : Place = behind r p w in
    let same : turned r p i w b (r.turns i w b) ≡ on None [] (w ∷ (b ∷ []) ∷ []) =
    ap (turned r p i w b) (l.delimiter_ends i w b whole del)
    ∙ (cond-true (r.whole i w && r.delimits b) (ending w (between r q b)) dead (and_from (r.whole i w) (r.delimits b) whole del) ∙ ap (ending w) (sole_step r q b h)) in
    ap (judged r (at p (Some i) w)) same
    ∙ low_five r (at p (Some i) w) None [] (w ∷ (b ∷ []) ∷ []) (and_from (short w) true small refl) (and_right (low q) (low (behind r q (b ∷ [])) && true) (and_left (low (behind r q (b ∷ []))) true h.2))

-- behind a word under way that has no more bytes
five_last : (r : Rules) → Lawful r → (p : Place) (i : Inside) (c : ℕ) (v : Word) (ws : List Word) (k b : ℕ) (bs tail rest : List ℕ) → Live r p i (c ∷ v) → low p ≡ true → short (c ∷ v) ≡ true → b ∷ bs ≡ tail ++ rest → spelled_on r i (c ∷ v) tail ≡ true
    → Follows r.kind r.delimits ((c ∷ v) ++ tail) rest → (wr : WrittenBy r ws rest) → parses r (behind r p (c ∷ v)) ws ≡ true → OpensTooMany r (behind r p (c ∷ v)) k b (places (k + length tail) wr)
    → judged r (at p (Some i) (c ∷ v)) (stepped r p (Some i) (c ∷ v) b) ≡ refused 5
five_last r l p i c v ws k b bs (d ∷ tail) rest live h small e sp fo wr f x =
    let n : ℕ = k + length (d ∷ tail) in
    absurd (opens_not_later r (behind r p (c ∷ v)) k n b (places n wr) (omega arith) (places_begin r ws rest n wr) x)
five_last r l p i c v ws k b bs [] [] live h small e sp fo wr f x = absurd (not_empty b bs (sym e))
five_last r l p i c v ws k b bs [] (d ∷ rest) live h small e sp fo wr f x =
    let w : Word = c ∷ v in
    let q : Place = behind r p w in
    let lo : low q ≡ true = low_live r l p i w [] live h in
    let same : b ≡ d = same_head b d bs rest e in
    let y : OpensTooMany r q k d (places k wr) = subst (λ (a : ℕ). OpensTooMany r q k a (places k wr)) same (subst (λ (n : ℕ). OpensTooMany r q k b (places n wr)) (omega arith) x) in
    subst (λ (a : ℕ). judged r (at p (Some i) w) (stepped r p (Some i) w a) ≡ refused 5) (sym same)
    (deep_over r l p i w d small sp (loose_follows r l i c v (d ∷ rest) live.0 sp fo) (opens_here r l q k d rest ws wr f lo y))

five_back : (r : Rules) → Lawful r → (p : Place) (io : Option Inside) (w : Word) (ws : List Word) (k b : ℕ) (bs : List ℕ) → Sane r p io w → low p ≡ true → short w ≡ true → length w ≤ k → (g : Rest r p io w ws (b ∷ bs))
    → OpensTooMany r p k b (rest_places r p io w ws (b ∷ bs) g k) → judged r (at p io w) (stepped r p io w b) ≡ refused 5
five_back r l p None w ws k b bs sane h small n g x = deep_between r None w p b (opens_here r l p k b bs ws g.0 g.1 h x)
five_back r l p (Some i) [] ws k b bs sane h small n g x = absurd sane
five_back r l p (Some i) (c ∷ v) ws k b bs sane h small n g (inl x) = absurd (let e = x.0 in omega arith)
five_back r l p (Some i) (c ∷ v) ws k b bs sane h small n g (inr x) =
    five_last r l p i c v g.more k b bs g.tail g.rest sane h small g.bytes_are g.spelt g.follows g.written g.parse x

-- the place behind bytes taken, and how few brackets are open there
low_words : (r : Rules) (p : Place) (ws : List Word) → low p ≡ true → all_low r p ws ≡ true → low (behind_all r p ws) ≡ true
low_words r p [] h e = h
low_words r p (w ∷ ws) h e = let q = and_parts (low (behind r p w)) (all_low r (behind r p w) ws) e in low_words r (behind r p w) ws q.0 q.1

next_so_far : (r : Rules) (s : State) (st : Step) → Went r s st → (next r s st).place ≡ behind_all r s.place (step_words st)
next_so_far r s dead w = absurd (false≢true w.lives)
next_so_far r s (on io v ws) w = refl

place_so_far : (r : Rules) (s : State) (k : ℕ) (bs : List ℕ) → taken (means r s) bs ≡ true → (run r s bs).place ≡ behind_all r s.place (words_in (so_far r s k bs))
place_so_far r s k [] h = refl
place_so_far r s k (b ∷ bs) h =
    let st : Step = step r s b in
    let s' : State = next r s st in
    let q = and_parts (granted (judged r s st)) (taken (means r s') bs) h in
    let w = went r s st q.0 in
    let ps : List Placed = placed_at r.kind k (step_words st) in
    place_so_far r s' (suc k) bs q.1
    ∙ (ap (λ (p : Place). behind_all r p (words_in (so_far r s' (suc k) bs))) (next_so_far r s st w ∙ ap (behind_all r s.place) (sym (words_placed r k (step_words st))))
    ∙ (sym (behind_append r s.place (words_in ps) (words_in (so_far r s' (suc k) bs))) ∙ ap (behind_all r s.place) (sym (words_append ps (so_far r s' (suc k) bs)))))

pub five_if_deep : (r : Rules) → Lawful r → FiveIfDeep r
five_if_deep r l bs b more h d =
    let s : State = run r (fresh r) bs in
    let p : Place = first_place r in
    let g = goes_on r l bs b more h d in
    let k : ℕ = length bs in
    let before : List Placed = so_far r (fresh r) 0 bs in
    let here : List Placed = rest_places r s.place s.inside s.word g.words_to_come (b ∷ more) g.rest k in
    let where_now : s.place ≡ behind_all r p (words_in before) = place_so_far r (fresh r) 0 bs h in
    let t = gave r l (fresh r) bs (fit_fresh r) refl h in
    let few : low s.place ≡ true = ap low t.leads ∙ low_words r p (ended (grammar_of r) bs) refl t.good.lows in
    let comes : placed_from r s k (b ∷ more) ≡ here = (complete r l (b ∷ more) s.place s.inside s.word g.words_to_come g.fit.0 g.rest).1 k in (
      λ e. subst (OpensTooMany r p k b) (sym g.all_places)
          (opens_right r p k b before here (subst (λ (q : Place). OpensTooMany r q k b here) where_now (subst (OpensTooMany r s.place k b) comes
          (five_stepped r l s.place s.inside s.word k b (placed_from r (next r s (step r s b)) (suc k) more) g.fit.0 few (five_low r s (step r s b) e))))),
      λ x. ⊎_elim (λ y. absurd (opens_not_ended r p k b before g.ended_before y))
          (λ y. five_back r l s.place s.inside s.word g.words_to_come k b more g.fit.0 few g.small g.within g.rest (subst (λ (q : Place). OpensTooMany r q k b here) (sym where_now) y))
          (opens_cases r p k b before here (subst (OpensTooMany r p k b) g.all_places x)),
    )
