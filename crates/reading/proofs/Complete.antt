-- Every document of the language is accepted, and its words, in their places, are those that the machine ends.
use Rattle.std.proofs.Common.{◌≡◌, ℕ, suc, ◌+◌, ◌-◌, Bool, true, false, ◌&&◌, List, [], ◌∷◌, ◌++◌, length, Some, None, Option, sym, refl, ap, ◌∙◌, subst, append_assoc, arith}
use Rattle.std.proofs.lemmas.List.{append-nil, length-append}
use Rattle.std.proofs.lemmas.Bool.{false≢true, and_parts, and_from, cond-true, cond-false}
use Rattle.grammar.specs.Meaning.{Word}
use Rattle.rules.specs.declared.word.Inside.{Inside}
use Rattle.rules.specs.declared.word.Begin.{Begin}
use Rattle.rules.specs.declared.word.Begin.TheVariants.{Blank, Sole, Starts, Never as NeverBegins}
use Rattle.rules.specs.declared.word.Turn.{Turn}
use Rattle.rules.specs.declared.word.Turn.TheVariants.{Stays, Closes, Never as NeverTurns}
use Rattle.rules.specs.Rules.{Rules, Place, admits, behind, loose}
use Rattle.rules.specs.Machine.{State, Step, dead, begun, between, turned, ending, step, next, pending}
use Rattle.rules.specs.Language.{WrittenBy, blank_byte, word_then, nothing, Follows, FollowsKind, Delimited, is_blank, none_left, spelled_begin, spelled_turn, spelled_on, spelled, parses}
use Rattle.rules.specs.Lawful.{Lawful, Begun, first_byte, one_more}
use Rattle.reading.specs.Places.{Placed, places, place_of, placed_at}
use Rattle.reading.specs.Accepts.{at, alive, step_words, accepts, words_from, placed_from}
use Rattle.reading.proofs.Rest.{Live, Sane, Rest, accepts_on, placed_on, accepts_ending, placed_ending, same_head, same_tail, not_empty}

-- accepted, with these words in their places
abbrev Taken : Rules → Place → Option Inside → Word → (ℕ → List Placed) → List ℕ → Type 0
Taken r p io w P bs = (accepts r (at p io w) bs ≡ true) × ((k : ℕ) → placed_from r (at p io w) k bs ≡ P k)

abbrev TakenOn : Rules → Place → Option Inside → Word → Step → (ℕ → List Placed) → List ℕ → Type 0
TakenOn r p io w st P bs = (accepts_on r (at p io w) st bs ≡ true) × ((k : ℕ) → placed_on r (at p io w) st k bs ≡ P k)

-- a word at a place, and then more
abbrev then_more : Word → (ℕ → List Placed) → ℕ → List Placed
then_more w P k = record { place = k; word = w } ∷ P (k + length w)

-- the word under way w, finished by tail, and then more
abbrev then_tail : Word → List ℕ → (ℕ → List Placed) → ℕ → List Placed
then_tail w tail P k = record { place = k - length w; word = w ++ tail } ∷ P (k + length tail)

-- the places of what may come
abbrev pub rest_places : (r : Rules) (p : Place) (io : Option Inside) (w : Word) (ws : List Word) (bs : List ℕ) → Rest r p io w ws bs → ℕ → List Placed
rest_places r p None w ws bs g k = places k g.0
rest_places r p (Some i) w ws bs g k = then_tail w g.tail (λ n. places n g.written) k

abbrev Complete : Rules → List ℕ → Type 0
Complete r bs = (p : Place) (io : Option Inside) (w : Word) (ws : List Word) → Sane r p io w → (g : Rest r p io w ws bs) → Taken r p io w (rest_places r p io w ws bs g) bs

same_placed : (n m : ℕ) (w v : Word) (x y : List Placed) → n ≡ m → w ≡ v → x ≡ y → record { place = n; word = w } ∷ x ≡ record { place = m; word = v } ∷ y
same_placed n m w v x y e f g =
    ap (λ (q : ℕ). record { place = q; word = w } ∷ x) e ∙ (ap (λ (u : Word). record { place = m; word = u } ∷ x) f ∙ ap (λ (z : List Placed). record { place = m; word = v } ∷ z) g)

-- a loose word ends before the byte that ends it, another word with it
pub loose_place : (r : Rules) (k b : ℕ) (w : Word) → loose (r.kind b) ≡ true → place_of r.kind k (b ∷ w) ≡ k - length (b ∷ w)
loose_place r k b w h = cond-true (loose (r.kind b)) (k - length (b ∷ w)) (suc k - length (b ∷ w)) h

pub strict_place : (r : Rules) (k b : ℕ) (w : Word) → loose (r.kind b) ≡ false → place_of r.kind k (b ∷ w) ≡ suc k - length (b ∷ w)
strict_place r k b w h = cond-false (loose (r.kind b)) (k - length (b ∷ w)) (suc k - length (b ∷ w)) h

-- a spelled word has bytes
spelled_first : (r : Rules) (w : Word) (rest : List ℕ) → spelled r w ≡ true → [] ≡ w ++ rest → ⊥
spelled_first r [] rest sp e = false≢true sp
spelled_first r (b ∷ w) rest sp e = not_empty b (w ++ rest) e

-- no bytes write no words
empty_places : (r : Rules) (ws : List Word) (bs : List ℕ) → [] ≡ bs → (wr : WrittenBy r ws bs) → (ws ≡ []) × ((k : ℕ) → places k wr ≡ [])
empty_places r [] [] e nothing = (refl, λ k. refl)
empty_places r ws (b ∷ bs) e (blank_byte c h wr) = absurd (not_empty b bs e)
empty_places r (v ∷ ws) bs e (word_then w rest sp same follows more) = absurd (spelled_first r w rest sp (e ∙ same))

complete_blank : (r : Rules) (bs : List ℕ) → Complete r bs → (b : ℕ) (p : Place) (ws : List Word) (k : Begin) → is_blank k ≡ true → (wr : WrittenBy r ws bs) → parses r p ws ≡ true → TakenOn r p None [] (begun (admits r p b) k b) (λ n. places (suc n) wr) bs
complete_blank r bs ih b p ws Blank h wr f = let q = ih p None [] ws tt (wr, f) in (q.0, λ n. q.1 (suc n))
complete_blank r bs ih b p ws Sole h wr f = absurd (false≢true h)
complete_blank r bs ih b p ws (Starts i) h wr f = absurd (false≢true h)
complete_blank r bs ih b p ws NeverBegins h wr f = absurd (false≢true h)

complete_word : (r : Rules) → Lawful r → (bs : List ℕ) → Complete r bs → (b : ℕ) (v : Word) (rest : List ℕ) (p : Place) (ws : List Word) (k : Begin) (a : Bool) → r.begins b ≡ k → admits r p b ≡ a → a ≡ true
    → spelled_begin r b v k ≡ true → bs ≡ v ++ rest → Follows r.kind r.delimits (b ∷ v) rest → (wr : WrittenBy r ws rest) → parses r (behind r p (b ∷ v)) ws ≡ true
    → TakenOn r p None [] (begun a k b) (then_more (b ∷ v) (λ n. places n wr)) bs
complete_word r l bs ih b v rest p ws k false ek ea adm sp e fo wr f = absurd (false≢true adm)
complete_word r l bs ih b v rest p ws Blank true ek ea adm sp e fo wr f = absurd (false≢true sp)
complete_word r l bs ih b [] rest p ws Sole true ek ea adm sp e fo wr f =
    subst (λ (xs : List ℕ). TakenOn r p None [] (begun true Sole b) (then_more (b ∷ []) (λ n. places n wr)) xs) (sym e)
    (let q = subst (Complete r) e ih (behind r p (b ∷ [])) None [] ws tt (wr, f) in (
      q.0,
      λ n. same_placed (place_of r.kind n (b ∷ [])) n (b ∷ []) (b ∷ []) _ (places (n + 1) wr)
          (strict_place r n b [] (l.sole_not_loose b ek) ∙ omega arith) refl (q.1 (suc n) ∙ ap (λ (m : ℕ). places m wr) (omega arith)),
    ))
complete_word r l bs ih b (c ∷ v) rest p ws Sole true ek ea adm sp e fo wr f = absurd (false≢true sp)
complete_word r l bs ih b v rest p ws (Starts i) true ek ea adm sp e fo wr f =
    let q = ih p (Some i) (b ∷ []) ((b ∷ v) ∷ ws) (first_byte i b ek, ea) (record {
      tail = v;
      rest = rest;
      more = ws;
      words_are = refl;
      bytes_are = e;
      spelt = sp;
      follows = fo;
      written = wr;
      parse = f;
    }) in
    (q.0, λ n. q.1 (suc n) ∙ same_placed (suc n - 1) n (b ∷ v) (b ∷ v) (places (suc n + length v) wr) (places (n + length (b ∷ v)) wr) (omega arith) refl (ap (λ (m : ℕ). places m wr) (omega arith)))
complete_word r l bs ih b v rest p ws NeverBegins true ek ea adm sp e fo wr f = absurd (false≢true sp)

-- between words
complete_between : (r : Rules) → Lawful r → (bs : List ℕ) → Complete r bs → (b : ℕ) (p : Place) (ws : List Word) (wr : WrittenBy r ws (b ∷ bs)) → parses r p ws ≡ true → TakenOn r p None [] (between r p b) (λ n. places n wr) bs
complete_between r l bs ih b p ws (blank_byte c h wr) f = complete_blank r bs ih b p ws (r.begins b) h wr f
complete_between r l bs ih b p (u ∷ ws) (word_then [] rest sp e fo wr) f = absurd (false≢true sp)
complete_between r l bs ih b p (u ∷ ws) (word_then (c ∷ v) rest sp e fo wr) f =
    let g = and_parts (admits r p c) (parses r (behind r p (c ∷ v)) ws) f in
    subst (λ (x : ℕ). TakenOn r p None [] (between r p x) (then_more (c ∷ v) (λ n. places n wr)) bs) (sym (same_head b c bs (v ++ rest) e))
    (complete_word r l bs ih c v rest p ws (r.begins c) (admits r p c) refl refl g.0 sp (same_tail b c bs (v ++ rest) e) fo wr g.1)

-- a word that has no more bytes: the next byte delimits it
complete_over : (r : Rules) → Lawful r → (bs : List ℕ) → Complete r bs → (c : ℕ) (p : Place) (i : Inside) (b : ℕ) (v : Word) (ws : List Word) → Begun r i (b ∷ v) → r.whole i (b ∷ v) ≡ true → r.delimits c ≡ true
    → (wr : WrittenBy r ws (c ∷ bs)) → parses r (behind r p (b ∷ v)) ws ≡ true → TakenOn r p (Some i) (b ∷ v) (turned r p i (b ∷ v) c (r.turns i (b ∷ v) c)) (then_tail (b ∷ v) [] (λ n. places n wr)) bs
complete_over r l bs ih c p i b v ws begun whole del wr f =
    let w : Word = b ∷ v in
    let q : Place = behind r p w in
    let st : Step = between r q c in
    let k = complete_between r l bs ih c q ws wr f in
    let same : turned r p i w c (r.turns i w c) ≡ ending w st =
    ap (turned r p i w c) (l.delimiter_ends i w c whole del) ∙ cond-true (r.whole i w && r.delimits c) (ending w st) dead (and_from (r.whole i w) (r.delimits c) whole del) in
    subst (λ (x : Step). TakenOn r p (Some i) w x (then_tail w [] (λ n. places n wr)) bs) (sym same) (
      accepts_ending r p (Some i) w w st bs ∙ k.0,
      λ n. placed_ending r p (Some i) w w st n bs (and_parts (alive st) _ k.0).0
          ∙ same_placed (place_of r.kind n w) (n - length w) w (w ++ []) (placed_on r (at q None []) st n bs) (places (n + 0) wr)
          (loose_place r n b v (l.whole_is_loose i b v begun whole)) (sym (append-nil w)) (k.1 n ∙ ap (λ (m : ℕ). places m wr) (omega arith)),
    )

-- a word with more bytes
complete_more : (r : Rules) → Lawful r → (bs : List ℕ) → Complete r bs → (c : ℕ) (p : Place) (i : Inside) (b : ℕ) (v : Word) (tail rest : List ℕ) (ws : List Word) → Live r p i (b ∷ v) → (k : Turn) → r.turns i (b ∷ v) c ≡ k
    → spelled_turn (λ j. spelled_on r j ((b ∷ v) ++ c ∷ []) tail) (none_left tail) k ≡ true → bs ≡ tail ++ rest → Follows r.kind r.delimits ((b ∷ v) ++ c ∷ tail) rest → (wr : WrittenBy r ws rest)
    → parses r (behind r p (b ∷ v)) ws ≡ true → TakenOn r p (Some i) (b ∷ v) (turned r p i (b ∷ v) c k) (then_tail (b ∷ v) (c ∷ tail) (λ n. places n wr)) bs
complete_more r l bs ih c p i b v tail rest ws live (Stays j) ek sp e fo wr f =
    let w : Word = b ∷ v in
    let same : (w ++ c ∷ []) ++ tail ≡ w ++ c ∷ tail = append_assoc w (c ∷ []) tail in
    let long = length-append w (c ∷ []) in
    let q = ih p (Some j) (w ++ c ∷ []) ((w ++ c ∷ tail) ∷ ws) (one_more i j w (w ++ c ∷ []) c live.0 ek refl, live.1) (record {
      tail = tail;
      rest = rest;
      more = ws;
      words_are = ap (λ (u : Word). u ∷ ws) (sym same);
      bytes_are = e;
      spelt = sp;
      follows = fo;
      written = wr;
      parse = f;
    }) in (
      q.0,
      λ n. q.1 (suc n) ∙ same_placed (suc n - length (w ++ c ∷ [])) (n - length w) ((w ++ c ∷ []) ++ tail) (w ++ c ∷ tail) (places (suc n + length tail) wr) (places (n + length (c ∷ tail)) wr)
          (omega arith) same (ap (λ (m : ℕ). places m wr) (omega arith)),
    )
complete_more r l bs ih c p i b v [] rest ws live Closes ek sp e fo wr f =
    let w : Word = b ∷ v in
    let long = length-append w (c ∷ []) in
    subst (λ (xs : List ℕ). TakenOn r p (Some i) w (turned r p i w c Closes) (then_tail w (c ∷ []) (λ n. places n wr)) xs) (sym e)
    (let q = subst (Complete r) e ih (behind r p w) None [] ws tt (wr, f) in (
      q.0,
      λ n. same_placed (place_of r.kind n (w ++ c ∷ [])) (n - length w) (w ++ c ∷ []) (w ++ c ∷ []) _ (places (n + 1) wr)
          (strict_place r n b (v ++ c ∷ []) (l.closed_not_loose i b c v live.0 ek) ∙ omega arith) refl (q.1 (suc n) ∙ ap (λ (m : ℕ). places m wr) (omega arith)),
    ))
complete_more r l bs ih c p i b v (d ∷ tail) rest ws live Closes ek sp e fo wr f = absurd (false≢true sp)
complete_more r l bs ih c p i b v tail rest ws live NeverTurns ek sp e fo wr f = absurd (false≢true sp)

-- a loose word ends here
pub loose_follows : (r : Rules) → Lawful r → (i : Inside) (b : ℕ) (v : Word) (rest : List ℕ) → Begun r i (b ∷ v) → r.whole i (b ∷ v) ≡ true → Follows r.kind r.delimits ((b ∷ v) ++ []) rest → Delimited r.delimits rest
loose_follows r l i b v rest g whole fo = subst (λ (x : Bool). FollowsKind r.delimits x rest) (l.whole_is_loose i b v g whole) fo

complete_going : (r : Rules) → Lawful r → (bs : List ℕ) → Complete r bs → (c : ℕ) (p : Place) (i : Inside) (b : ℕ) (v : Word) (tail rest : List ℕ) (ws : List Word) → Live r p i (b ∷ v)
    → c ∷ bs ≡ tail ++ rest → spelled_on r i (b ∷ v) tail ≡ true → Follows r.kind r.delimits ((b ∷ v) ++ tail) rest → (wr : WrittenBy r ws rest) → parses r (behind r p (b ∷ v)) ws ≡ true
    → Taken r p (Some i) (b ∷ v) (then_tail (b ∷ v) tail (λ n. places n wr)) (c ∷ bs)
complete_going r l bs ih c p i b v [] [] ws live e sp fo wr f = absurd (not_empty c bs (sym e))
complete_going r l bs ih c p i b v [] (d ∷ rest) ws live e sp fo wr f =
    subst (λ (xs : List ℕ). Taken r p (Some i) (b ∷ v) (then_tail (b ∷ v) [] (λ n. places n wr)) xs) (sym e)
    (complete_over r l rest (subst (Complete r) (same_tail c d bs rest e) ih) d p i b v ws live.0 sp (loose_follows r l i b v (d ∷ rest) live.0 sp fo) wr f)
complete_going r l bs ih c p i b v (d ∷ tail) rest ws live e sp fo wr f =
    let same : d ≡ c = sym (same_head c d bs (tail ++ rest) e) in
    subst (λ (x : ℕ). Taken r p (Some i) (b ∷ v) (then_tail (b ∷ v) (x ∷ tail) (λ n. places n wr)) (c ∷ bs)) (sym same)
    (complete_more r l bs ih c p i b v tail rest ws live (r.turns i (b ∷ v) c) refl
    (subst (λ (x : ℕ). spelled_on r i (b ∷ v) (x ∷ tail) ≡ true) same sp) (same_tail c d bs (tail ++ rest) e)
    (subst (λ (x : ℕ). Follows r.kind r.delimits ((b ∷ v) ++ x ∷ tail) rest) same fo) wr f)

-- a word that the end ends
complete_end : (r : Rules) → Lawful r → (p : Place) (i : Inside) (b : ℕ) (v : Word) (tail rest : List ℕ) (ws : List Word) → Begun r i (b ∷ v) → [] ≡ tail ++ rest → spelled_on r i (b ∷ v) tail ≡ true → (wr : WrittenBy r ws rest)
    → parses r (behind r p (b ∷ v)) ws ≡ true → Taken r p (Some i) (b ∷ v) (then_tail (b ∷ v) tail (λ n. places n wr)) []
complete_end r l p i b v [] rest ws begun e sp wr f =
    let w : Word = b ∷ v in
    let nil = empty_places r ws rest e wr in (
      and_from (r.whole i w) _ sp (subst (λ (us : List Word). parses r (behind r p w) us ≡ true) nil.0 f),
      λ n. same_placed (place_of r.kind n w) (n - length w) w (w ++ []) [] (places (n + 0) wr) (loose_place r n b v (l.whole_is_loose i b v begun sp)) (sym (append-nil w)) (sym (nil.1 (n + 0))),
    )
complete_end r l p i b v (d ∷ tail) rest ws begun e sp wr f = absurd (not_empty d (tail ++ rest) e)

pub complete : (r : Rules) → Lawful r → (bs : List ℕ) → Complete r bs
complete r l [] p None w ws sane g =
    let nil = empty_places r ws [] refl g.0 in
    (subst (λ (us : List Word). parses r p us ≡ true) nil.0 g.1, λ k. sym (nil.1 k))
complete r l (b ∷ bs) p None (c ∷ w) ws sane g = absurd sane
complete r l (b ∷ bs) p None [] ws sane g = complete_between r l bs (complete r l bs) b p ws g.0 g.1
complete r l bs p (Some i) [] ws sane g = absurd sane
complete r l [] p (Some i) (b ∷ v) ws sane g = complete_end r l p i b v g.tail g.rest g.more sane.0 g.bytes_are g.spelt g.written g.parse
complete r l (c ∷ bs) p (Some i) (b ∷ v) ws sane g = complete_going r l bs (complete r l bs) c p i b v g.tail g.rest g.more sane g.bytes_are g.spelt g.follows g.written g.parse

-- the words without their places
abbrev pub words_in : List Placed → List Word
words_in [] = []
words_in (x ∷ xs) = x.word ∷ words_in xs

pub words_append : (xs ys : List Placed) → words_in (xs ++ ys) ≡ words_in xs ++ words_in ys
words_append [] ys = refl
words_append (x ∷ xs) ys = ap (λ (ws : List Word). x.word ∷ ws) (words_append xs ys)

pub words_placed : (r : Rules) (k : ℕ) (ws : List Word) → words_in (placed_at r.kind k ws) ≡ ws
words_placed r k [] = refl
words_placed r k (w ∷ ws) = ap (λ (us : List Word). w ∷ us) (words_placed r k ws)

words_of_places : (r : Rules) (s : State) (k : ℕ) (bs : List ℕ) → words_in (placed_from r s k bs) ≡ words_from r s bs
words_of_places r s k [] = words_placed r k (pending s.inside s.word)
words_of_places r s k (b ∷ bs) =
    let st : Step = step r s b in
    words_append (placed_at r.kind k (step_words st)) (placed_from r (next r s st) (suc k) bs)
    ∙ (ap (λ (us : List Word). us ++ words_in (placed_from r (next r s st) (suc k) bs)) (words_placed r k (step_words st)) ∙ ap (λ (us : List Word). step_words st ++ us) (words_of_places r (next r s st) (suc k) bs))

pub words_written : (r : Rules) (ws : List Word) (bs : List ℕ) (k : ℕ) (wr : WrittenBy r ws bs) → words_in (places k wr) ≡ ws
words_written r [] [] k nothing = refl
words_written r ws (b ∷ bs) k (blank_byte c e wr) = words_written r ws bs (suc k) wr
words_written r (w ∷ ws) bs k (word_then v rest sp e fo wr) = ap (λ (us : List Word). w ∷ us) (words_written r ws rest (k + length w) wr)

-- so the words are those of the text
pub complete_words : (r : Rules) → Lawful r → (bs : List ℕ) (p : Place) (ws : List Word) → (wr : WrittenBy r ws bs) → parses r p ws ≡ true → words_from r (at p None []) bs ≡ ws
complete_words r l bs p ws wr f =
    sym (words_of_places r (at p None []) 0 bs) ∙ (ap words_in ((complete r l bs p None [] ws tt (wr, f)).1 0) ∙ words_written r ws bs 0 wr)
