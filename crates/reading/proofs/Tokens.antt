-- The tokens that the machine gives stand for the words that it ends, balance, and keep the bounds.
use Rattle.std.proofs.Common.{◌≡◌, ℕ, zero, suc, pred, ◌+◌, ◌*◌, ◌<◌, ◌≤◌, true, List, [], ◌∷◌, ◌++◌, length, Some, None, Option, sym, refl, ap, ◌∙◌, subst, ⊎_elim, append_assoc, arith}
use Rattle.std.proofs.lemmas.List.{length-append}
use Rattle.std.proofs.lemmas.Bool.{and_parts, leb-true}
use Rattle.lines.specs.Lines.{newlines}
use Rattle.lines.proofs.Joins.{newlines_append}
use Rattle.layout.specs.Tokens.{Token, Text, Break, Opening, Ending, nest}
use Rattle.grammar.specs.Meaning.{Word}
use Rattle.grammar.specs.Laws.{Fine, AllFine, Nested}
use Rattle.rules.specs.declared.place.Bracket.{Bracket}
use Rattle.rules.specs.declared.place.Move.{Move}
use Rattle.rules.specs.declared.place.Move.TheVariants.{Within, Opens, Closes}
use Rattle.layout.specs.declared.token.Break.{Break as Lead}
use Rattle.layout.specs.declared.token.Opening.{Opening as BlockForm}
use Rattle.rules.specs.Rules.{Rules, Place, innermost, without_innermost, moves_at, placed, behind, behind_all, led, opened, closed, word_tokens, stand_for}
use Rattle.rules.specs.Machine.{short, all_short, low, all_low}
use Rattle.rules.specs.Lawful.{Lawful, Ranged}

-- the tokens of words, and then of more words
pub stand_append : (r : Rules) (p : Place) (ws vs : List Word) → stand_for r p (ws ++ vs) ≡ stand_for r p ws ++ stand_for r (behind_all r p ws) vs
stand_append r p [] vs = refl
stand_append r p (w ∷ ws) vs =
    ap (λ (ts : List Token). word_tokens r p w ++ ts) (stand_append r (behind r p w) ws vs)
    ∙ sym (append_assoc (word_tokens r p w) (stand_for r (behind r p w) ws) (stand_for r (behind_all r (behind r p w) ws) vs))

pub behind_append : (r : Rules) (p : Place) (ws vs : List Word) → behind_all r p (ws ++ vs) ≡ behind_all r (behind_all r p ws) vs
behind_append r p [] vs = refl
behind_append r p (w ∷ ws) vs = behind_append r (behind r p w) ws vs

-- as many blocks are open as brackets
nest_append : (n : ℕ) (ts us : List Token) → nest n (ts ++ us) ≡ nest (nest n ts) us
nest_append n [] us = refl
nest_append n (Text bytes ∷ ts) us = nest_append n ts us
nest_append n (Break blanks offset ∷ ts) us = nest_append n ts us
nest_append n (Opening offset fold anchor ∷ ts) us = nest_append (suc n) ts us
nest_append n (Ending ∷ ts) us = nest_append (pred n) ts us

pub fewer : (ks : List Bracket) → pred (length ks) ≡ length (without_innermost ks)
fewer [] = refl
fewer (k ∷ ks) = refl

nest_moved : (f : BlockForm) (m : Option Move) (p : Place) (bytes : List ℕ) → nest (length p.brackets) (opened f m ++ (Text bytes ∷ closed m)) ≡ length (placed m p).brackets
nest_moved f None p bytes = refl
nest_moved f (Some (Within e)) p bytes = refl
nest_moved f (Some (Opens k)) p bytes = refl
nest_moved f (Some Closes) p bytes = fewer p.brackets

nest_led : (k : Option Lead) (n : ℕ) (ts : List Token) → nest n (led k ++ ts) ≡ nest n ts
nest_led None n ts = refl
nest_led (Some k) n ts = refl

nest_word : (r : Rules) (p : Place) (w : Word) → nest (length p.brackets) (word_tokens r p w) ≡ length (behind r p w).brackets
nest_word r p [] = refl
nest_word r p (b ∷ v) = nest_led (r.lead p.expects b) (length p.brackets) _ ∙ nest_moved r.block (moves_at r p b) p (r.text (b ∷ v))

pub nest_words : (r : Rules) (p : Place) (ws : List Word) → nest (length p.brackets) (stand_for r p ws) ≡ length (behind_all r p ws).brackets
nest_words r p [] = refl
nest_words r p (w ∷ ws) =
    nest_append (length p.brackets) (word_tokens r p w) (stand_for r (behind r p w) ws)
    ∙ (ap (λ (n : ℕ). nest n (stand_for r (behind r p w) ws)) (nest_word r p w) ∙ nest_words r (behind r p w) ws)

-- a word with bytes and no newline
abbrev pub PlainWord : Word → Type 0
PlainWord w = (0 < length w) × (newlines w ≡ 0)

abbrev pub PlainWords : List Word → Type 0
PlainWords [] = Unit {0}
PlainWords (w ∷ ws) = PlainWord w × PlainWords ws

pub plain_append : (ws vs : List Word) → PlainWords ws → PlainWords vs → PlainWords (ws ++ vs)
plain_append [] vs h k = k
plain_append (w ∷ ws) vs h k = (h.0, plain_append ws vs h.1 k)

-- such words, within the limits, give tokens in range, well nested
fine_append : (ts us : List Token) → AllFine ts → AllFine us → AllFine (ts ++ us)
fine_append [] us h k = k
fine_append (t ∷ ts) us h k = (h.0, fine_append ts us h.1 k)

nested_append : (n : ℕ) (ts us : List Token) → Nested n ts → Nested (nest n ts) us → Nested n (ts ++ us)
nested_append n [] us h k = k
nested_append n (Text bytes ∷ ts) us h k = nested_append n ts us h k
nested_append n (Break blanks offset ∷ ts) us h k = nested_append n ts us h k
nested_append n (Opening offset fold anchor ∷ ts) us h k = (h.0, nested_append (suc n) ts us h.1 k)
nested_append zero (Ending ∷ ts) us h k = absurd h
nested_append (suc n) (Ending ∷ ts) us h k = nested_append n ts us h k

fine_text : (r : Rules) → Lawful r → (b : ℕ) (v : Word) → PlainWord (b ∷ v) → short (b ∷ v) ≡ true → Fine (Text (r.text (b ∷ v)))
fine_text r l b v plain small =
    let n = leb-true _ _ small in
    ⊎_elim
    (λ e. subst (λ (xs : List ℕ). Fine (Text xs)) (sym e) (plain.0, n, plain.1))
    (λ e. subst (λ (xs : List ℕ). Fine (Text xs)) (sym e.1) (omega arith, omega arith, newlines_append (b ∷ []) (0x20 ∷ []) ∙ (ap (λ (k : ℕ). k + 0) (ap (λ (x : Word). newlines (b ∷ x)) (sym e.0) ∙ plain.1))))
    (l.text_is_word b v)

fine_moved : (r : Rules) → Lawful r → (m : Option Move) (bytes : List ℕ) → Fine (Text bytes) → AllFine (opened r.block m ++ (Text bytes ∷ closed m))
fine_moved r l None bytes h = (h, tt)
fine_moved r l (Some (Within e)) bytes h = (h, tt)
fine_moved r l (Some (Opens k)) bytes h = (l.block_near, (h, tt))
fine_moved r l (Some Closes) bytes h = (h, (tt, tt))

fine_led : (k : Option Lead) (ts : List Token) → Ranged k → AllFine ts → AllFine (led k ++ ts)
fine_led None ts h f = f
fine_led (Some k) ts h f = (h, f)

nested_led : (k : Option Lead) (n : ℕ) (ts : List Token) → Nested n ts → Nested n (led k ++ ts)
nested_led None n ts h = h
nested_led (Some k) n ts h = h

nested_moved : (f : BlockForm) (m : Option Move) (ks : List Bracket) (p : Place) (bytes : List ℕ) → p.brackets ≡ ks → (innermost ks ≡ None → m ≡ Some Closes → ⊥) → low (placed m p) ≡ true → Nested (length ks) (opened f m ++ (Text bytes ∷ closed m))
nested_moved f None ks p bytes e h few = tt
nested_moved f (Some (Within x)) ks p bytes e h few = tt
nested_moved f (Some (Opens k)) ks p bytes e h few =
    let n = leb-true _ _ few in
    let same = ap (λ (xs : List Bracket). length xs) e in
    (omega arith, tt)
nested_moved f (Some Closes) [] p bytes e h few = absurd (h refl refl)
nested_moved f (Some Closes) (k ∷ ks) p bytes e h few = tt

pub record GoodTokens (r : Rules) (p : Place) (ts : List Token) : Type 0 where
  pub fine : AllFine ts
  pub nested : Nested (length p.brackets) ts

good_word : (r : Rules) → Lawful r → (p : Place) (b : ℕ) (v : Word) → PlainWord (b ∷ v) → short (b ∷ v) ≡ true → low (behind r p (b ∷ v)) ≡ true → GoodTokens r p (word_tokens r p (b ∷ v))
good_word r l p b v plain small few =
    let m : Option Move = moves_at r p b in
    let bytes : List ℕ = r.text (b ∷ v) in
    record {
      fine = fine_led (r.lead p.expects b) (opened r.block m ++ (Text bytes ∷ closed m)) (l.leads_near p.expects b) (fine_moved r l m bytes (fine_text r l b v plain small));
      nested = nested_led (r.lead p.expects b) (length p.brackets) (opened r.block m ++ (Text bytes ∷ closed m))
          (nested_moved r.block m p.brackets p bytes refl (λ e c. l.closes_open p.expects b (ap (λ (o : Option Bracket). r.moves p.expects o b) (sym e) ∙ c)) few);
    }

pub good_words : (r : Rules) → Lawful r → (p : Place) (ws : List Word) → PlainWords ws → all_short ws ≡ true → all_low r p ws ≡ true → GoodTokens r p (stand_for r p ws)
good_words r l p [] plain shorts lows = record { fine = tt; nested = tt }
good_words r l p ([] ∷ ws) plain shorts lows = absurd (let h : 0 < 0 = plain.0.0 in omega arith)
good_words r l p ((b ∷ v) ∷ ws) plain shorts lows =
    let s = and_parts (short (b ∷ v)) (all_short ws) shorts in
    let q : Place = behind r p (b ∷ v) in
    let h = and_parts (low q) (all_low r q ws) lows in
    let one = good_word r l p b v plain.0 s.0 h.0 in
    let more = good_words r l q ws plain.1 s.1 h.1 in
    record {
      fine = fine_append (word_tokens r p (b ∷ v)) (stand_for r q ws) one.fine more.fine;
      nested = nested_append (length p.brackets) (word_tokens r p (b ∷ v)) (stand_for r q ws) one.nested (subst (λ (n : ℕ). Nested n (stand_for r q ws)) (sym (nest_word r p (b ∷ v))) more.nested);
    }

-- a word gives at most four tokens
few_moved : (f : BlockForm) (m : Option Move) (bytes : List ℕ) → length (opened f m ++ (Text bytes ∷ closed m)) ≤ 2
few_moved f None bytes = omega arith
few_moved f (Some (Within e)) bytes = omega arith
few_moved f (Some (Opens k)) bytes = omega arith
few_moved f (Some Closes) bytes = omega arith

few_led : (k : Option Lead) → length (led k) ≤ 1
few_led None = omega arith
few_led (Some k) = omega arith

few_word : (r : Rules) (p : Place) (w : Word) → length (word_tokens r p w) ≤ 3
few_word r p [] = omega arith
few_word r p (b ∷ v) =
    let m : Option Move = moves_at r p b in
    let e = length-append (led (r.lead p.expects b)) (opened r.block m ++ (Text (r.text (b ∷ v)) ∷ closed m)) in
    let x = few_led (r.lead p.expects b) in
    let y = few_moved r.block m (r.text (b ∷ v)) in
    omega arith

pub few_words : (r : Rules) (p : Place) (ws : List Word) → length (stand_for r p ws) ≤ 3 * length ws
few_words r p [] = omega arith
few_words r p (w ∷ ws) =
    let e = length-append (word_tokens r p w) (stand_for r (behind r p w) ws) in
    let x = few_word r p w in
    let y = few_words r (behind r p w) ws in
    omega arith
