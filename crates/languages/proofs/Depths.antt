-- The brackets of the rules' place are as many as the kinds of the words say.
use Rattle.std.proofs.Common.{◌≡◌, ℕ, suc, pred, ◌<◌, Bool, true, false, cond, ◌&&◌, ◌||◌, leb, List, [], ◌∷◌, length, Some, None, Option, sym, refl, ap, ◌∙◌, subst, inl, inr}
use Rattle.std.proofs.lemmas.Bool.{false≢true, and_parts, or_parts, not-true, cond-true, cond-false, leb-false, lt-leb}
use Rattle.grammar.specs.Meaning.{Word}
use Rattle.grammar.specs.Laws.{most_open}
use Rattle.rules.specs.declared.word.Kind.{Kind}
use Rattle.rules.specs.declared.word.Kind.TheVariants.{Opening, Closing, Comma, Colon, Text, Number, Literal, Atom}
use Rattle.rules.specs.declared.place.Move.{Move}
use Rattle.rules.specs.declared.place.Move.TheVariants.{Within, Opens, Closes}
use Rattle.rules.specs.Rules.{Rules, Place, innermost, moves_at, is_some, admits, placed, behind}
use Rattle.rules.specs.Machine.{all_short, low, all_low, first_place}
use Rattle.rules.specs.Language.{is_opening, is_closing, open_behind, open_after, all_shallow, keeps_limits, within_limits, parses, SentenceBy}
use Rattle.rules.specs.Lawful.{Lawful, fits_kind}
use Rattle.reading.specs.Places.{Placed}
use Rattle.reading.specs.Judging.{OpensTooMany}
use Rattle.reading.proofs.Complete.{words_in}
use Rattle.reading.proofs.Tokens.{fewer}
use Rattle.languages.specs.Limits.{TooDeep}

-- a closing is no opening
closing_not_opening : (k : Kind) → is_closing k ≡ true → is_opening k ≡ false
closing_not_opening Opening h = absurd (false≢true h)
closing_not_opening Closing h = refl
closing_not_opening Comma h = refl
closing_not_opening Colon h = refl
closing_not_opening Text h = refl
closing_not_opening Number h = refl
closing_not_opening Literal h = refl
closing_not_opening Atom h = refl

count_placed : (p : Place) (k : Kind) (o : Option Move) → is_some o ≡ true → fits_kind k o ≡ true → length (placed o p).brackets ≡ open_behind k (length p.brackets)
count_placed p k None h f = absurd (false≢true h)
count_placed p k (Some (Within e)) h f =
    let n : ℕ = length p.brackets in
    let q = or_parts (is_opening k) (is_closing k) (not-true (is_opening k || is_closing k) f) in
    sym (cond-false (is_opening k) (suc n) (cond (is_closing k) (pred n) n) q.0 ∙ cond-false (is_closing k) (pred n) n q.1)
count_placed p k (Some (Opens j)) h f = let n : ℕ = length p.brackets in sym (cond-true (is_opening k) (suc n) (cond (is_closing k) (pred n) n) f)
count_placed p k (Some Closes) h f =
    let n : ℕ = length p.brackets in
    sym (cond-false (is_opening k) (suc n) (cond (is_closing k) (pred n) n) (closing_not_opening k f) ∙ (cond-true (is_closing k) (pred n) n f ∙ fewer p.brackets))

count_behind : (r : Rules) → Lawful r → (p : Place) (b : ℕ) (w : Word) → admits r p b ≡ true → length (behind r p (b ∷ w)).brackets ≡ open_after r.kind (b ∷ w) (length p.brackets)
count_behind r l p b w a = count_placed p (r.kind b) (moves_at r p b) a (l.kind_shows p.expects (innermost p.brackets) b)

low_shallow : (r : Rules) → Lawful r → (p : Place) (ws : List Word) → parses r p ws ≡ true → all_low r p ws ≡ all_shallow r.kind (length p.brackets) ws
low_shallow r l p [] h = refl
low_shallow r l p ([] ∷ ws) h = absurd (false≢true h)
low_shallow r l p ((b ∷ w) ∷ ws) h =
    let q = and_parts (admits r p b) (parses r (behind r p (b ∷ w)) ws) h in
    let e = count_behind r l p b w q.0 in
    ap (λ (x : Bool). low (behind r p (b ∷ w)) && x) (low_shallow r l (behind r p (b ∷ w)) ws q.1) ∙ ap (λ (n : ℕ). leb n most_open && all_shallow r.kind n ws) e

-- kinds that agree
after_alike : (k j : ℕ → Kind) → ((b : ℕ) → k b ≡ j b) → (w : Word) (n : ℕ) → open_after k w n ≡ open_after j w n
after_alike k j same [] n = refl
after_alike k j same (b ∷ w) n = ap (λ (x : Kind). open_behind x n) (same b)

shallow_alike : (k j : ℕ → Kind) → ((b : ℕ) → k b ≡ j b) → (n : ℕ) (ws : List Word) → all_shallow k n ws ≡ all_shallow j n ws
shallow_alike k j same n [] = refl
shallow_alike k j same n (w ∷ ws) =
    ap (λ (m : ℕ). leb m most_open && all_shallow k m ws) (after_alike k j same w n) ∙ ap (λ (x : Bool). leb (open_after j w n) most_open && x) (shallow_alike k j same (open_after j w n) ws)

pub same_limits : (r : Rules) → Lawful r → (kind : ℕ → Kind) → ((b : ℕ) → kind b ≡ r.kind b) → (ws : List Word) → SentenceBy r ws → within_limits r ws ≡ keeps_limits kind ws
same_limits r l kind same ws h =
    ap (λ (x : Bool). all_short ws && x) (low_shallow r l (first_place r) ws h ∙ sym (shallow_alike kind r.kind same 0 ws))

-- behind a word that may stand at its place
count_word : (r : Rules) → Lawful r → (kind : ℕ → Kind) → ((b : ℕ) → kind b ≡ r.kind b) → (p : Place) (d : ℕ) (w : Word) (ws : List Word) → length p.brackets ≡ d → parses r p (w ∷ ws) ≡ true
    → (length (behind r p w).brackets ≡ open_after kind w d) × (parses r (behind r p w) ws ≡ true)
count_word r l kind same p d [] ws e h = absurd (false≢true h)
count_word r l kind same p d (b ∷ w) ws e h =
    let q = and_parts (admits r p b) (parses r (behind r p (b ∷ w)) ws) h in
    (count_behind r l p b w q.0 ∙ (sym (after_alike kind r.kind same (b ∷ w) (length p.brackets)) ∙ ap (open_after kind (b ∷ w)) e), q.1)

-- the 65th bracket
pub deep_forth : (r : Rules) → Lawful r → (kind : ℕ → Kind) → ((b : ℕ) → kind b ≡ r.kind b) → (p : Place) (d n b : ℕ) (ps : List Placed) → length p.brackets ≡ d → parses r p (words_in ps) ≡ true → OpensTooMany r p n b ps → TooDeep kind d n b ps
deep_forth r l kind same p d n b [] e h x = x
deep_forth r l kind same p d n b (y ∷ ps) e h (inl x) =
    let q = count_word r l kind same p d y.word (words_in ps) e h in
    inl (x.0, x.1, subst (λ (m : ℕ). most_open < m) q.0 (leb-false (length (behind r p y.word).brackets) most_open x.2))
deep_forth r l kind same p d n b (y ∷ ps) e h (inr x) =
    let q = count_word r l kind same p d y.word (words_in ps) e h in
    inr (deep_forth r l kind same (behind r p y.word) (open_after kind y.word d) n b ps q.0 q.1 x)

pub deep_back : (r : Rules) → Lawful r → (kind : ℕ → Kind) → ((b : ℕ) → kind b ≡ r.kind b) → (p : Place) (d n b : ℕ) (ps : List Placed) → length p.brackets ≡ d → parses r p (words_in ps) ≡ true → TooDeep kind d n b ps → OpensTooMany r p n b ps
deep_back r l kind same p d n b [] e h x = x
deep_back r l kind same p d n b (y ∷ ps) e h (inl x) =
    let q = count_word r l kind same p d y.word (words_in ps) e h in
    inl (x.0, x.1, lt-leb (length (behind r p y.word).brackets) most_open (subst (λ (m : ℕ). most_open < m) (sym q.0) x.2))
deep_back r l kind same p d n b (y ∷ ps) e h (inr x) =
    let q = count_word r l kind same p d y.word (words_in ps) e h in
    inr (deep_back r l kind same (behind r p y.word) (open_after kind y.word d) n b ps q.0 q.1 x)
