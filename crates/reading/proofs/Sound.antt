-- What the machine accepts is a document of its language, with the words that it ended.
use Rattle.std.proofs.Common.{◌≡◌, ℕ, Bool, true, false, cond, ◌&&◌, List, [], ◌∷◌, ◌++◌, Some, None, Option, sym, refl, ap, ◌∙◌, subst, append_assoc}
use Rattle.std.proofs.lemmas.List.{append-nil}
use Rattle.std.proofs.lemmas.Bool.{false≢true, and_parts, and_from}
use Rattle.grammar.specs.Meaning.{Word}
use Rattle.rules.specs.declared.word.Inside.{Inside}
use Rattle.rules.specs.declared.word.Begin.{Begin}
use Rattle.rules.specs.declared.word.Begin.TheVariants.{Blank, Sole, Starts, Never as NeverBegins}
use Rattle.rules.specs.declared.word.Turn.{Turn}
use Rattle.rules.specs.declared.word.Turn.TheVariants.{Stays, Closes, Never as NeverTurns}
use Rattle.rules.specs.Rules.{Rules, Place, admits, behind, loose}
use Rattle.rules.specs.Machine.{Step, dead, begun, between, turned, ending}
use Rattle.rules.specs.Language.{WrittenBy, blank_byte, word_then, nothing, FollowsKind, is_blank, none_left, spelled_begin, spelled_turn, spelled_on, spelled, parses}
use Rattle.rules.specs.Lawful.{Lawful, first_byte, one_more}
use Rattle.reading.specs.Accepts.{at, alive, accepts, words_from}
use Rattle.reading.proofs.Rest.{Live, Sane, Going, Rest, accepts_on, words_on, accepts_ending, words_ending, follows_strict}

-- what is to be shown of each list of bytes
abbrev Sound : Rules → List ℕ → Type 0
Sound r bs = (p : Place) (io : Option Inside) (w : Word) → Sane r p io w → accepts r (at p io w) bs ≡ true → Rest r p io w (words_from r (at p io w) bs) bs

-- the words that a word under way and the rest make, written from that word's first byte on
written_going : (r : Rules) (p : Place) (i : Inside) (b : ℕ) (ws : List Word) (bs : List ℕ) → r.begins b ≡ Starts i → admits r p b ≡ true → Going r p i (b ∷ []) ws bs → WrittenBy r ws (b ∷ bs) × (parses r p ws ≡ true)
written_going r p i b ws bs e a g =
    let sp : spelled r (b ∷ g.tail) ≡ true = ap (λ (k : Begin). spelled_begin r b g.tail k) e ∙ g.spelt in (
      subst (λ (vs : List Word). WrittenBy r vs (b ∷ bs)) (sym g.words_are) (word_then (b ∷ g.tail) g.rest sp (ap (λ (xs : List ℕ). b ∷ xs) g.bytes_are) g.follows g.written),
      ap (parses r p) g.words_are ∙ and_from (admits r p b) (parses r (behind r p (b ∷ [])) g.more) a g.parse,
    )

sound_begun : (r : Rules) → Lawful r → (bs : List ℕ) → Sound r bs → (b : ℕ) (p : Place) (k : Begin) (a : Bool) → r.begins b ≡ k → admits r p b ≡ a
    → accepts_on r (at p None []) (begun a k b) bs ≡ true → WrittenBy r (words_on r (at p None []) (begun a k b) bs) (b ∷ bs) × (parses r p (words_on r (at p None []) (begun a k b) bs) ≡ true)
sound_begun r l bs ih b p Blank a e ea h =
    let q = ih p None [] tt h in (blank_byte b (ap is_blank e) q.0, q.1)
sound_begun r l bs ih b p Sole true e ea h =
    let q = ih (behind r p (b ∷ [])) None [] tt h in
    let sp : spelled r (b ∷ []) ≡ true = ap (λ (k : Begin). spelled_begin r b [] k) e in (
      word_then (b ∷ []) bs sp refl (follows_strict r.delimits (loose (r.kind b)) bs (l.sole_not_loose b e)) q.0,
      and_from (admits r p b) (parses r (behind r p (b ∷ [])) (words_from r (at (behind r p (b ∷ [])) None []) bs)) ea q.1,
    )
sound_begun r l bs ih b p Sole false e ea h = absurd (false≢true h)
sound_begun r l bs ih b p (Starts i) true e ea h =
    written_going r p i b (words_from r (at p (Some i) (b ∷ [])) bs) bs e ea (ih p (Some i) (b ∷ []) (first_byte i b e, ea) h)
sound_begun r l bs ih b p (Starts i) false e ea h = absurd (false≢true h)
sound_begun r l bs ih b p NeverBegins a e ea h = absurd (false≢true h)

sound_turned : (r : Rules) → Lawful r → (bs : List ℕ) → Sound r bs → (c : ℕ) (p : Place) (i : Inside) (b : ℕ) (v : Word) → Live r p i (b ∷ v) → (k : Turn) → r.turns i (b ∷ v) c ≡ k
    → accepts_on r (at p (Some i) (b ∷ v)) (turned r p i (b ∷ v) c k) bs ≡ true → Going r p i (b ∷ v) (words_on r (at p (Some i) (b ∷ v)) (turned r p i (b ∷ v) c k) bs) (c ∷ bs)
sound_turned r l bs ih c p i b v live (Stays j) e h =
    let w : Word = b ∷ v in
    let g = ih p (Some j) (w ++ c ∷ []) (one_more i j w (w ++ c ∷ []) c live.0 e refl, live.1) h in
    let same : (w ++ c ∷ []) ++ g.tail ≡ w ++ c ∷ g.tail = append_assoc w (c ∷ []) g.tail in
    record {
      tail = c ∷ g.tail;
      rest = g.rest;
      more = g.more;
      words_are = g.words_are ∙ ap (λ (u : Word). u ∷ g.more) same;
      bytes_are = ap (λ (xs : List ℕ). c ∷ xs) g.bytes_are;
      spelt = ap (λ (k : Turn). spelled_turn (λ j. spelled_on r j (w ++ c ∷ []) g.tail) (none_left g.tail) k) e ∙ g.spelt;
      follows = g.follows;
      written = g.written;
      parse = g.parse;
    }
sound_turned r l bs ih c p i b v live Closes e h =
    let w : Word = b ∷ v in
    let q = ih (behind r p w) None [] tt h in
    record {
      tail = c ∷ [];
      rest = bs;
      more = words_from r (at (behind r p w) None []) bs;
      words_are = refl;
      bytes_are = refl;
      spelt = ap (λ (k : Turn). spelled_turn (λ j. spelled_on r j (w ++ c ∷ []) []) true k) e;
      follows = follows_strict r.delimits (loose (r.kind b)) bs (l.closed_not_loose i b c v live.0 e);
      written = q.0;
      parse = q.1;
    }
sound_turned r l bs ih c p i b v live NeverTurns e h = over (r.whole i (b ∷ v)) (r.delimits c) refl refl h
  where
    w : Word
    w = b ∷ v

    over : (x y : Bool) → r.whole i w ≡ x → r.delimits c ≡ y → accepts_on r (at p (Some i) w) (cond (x && y) (ending w (between r (behind r p w) c)) dead) bs ≡ true
        → Going r p i w (words_on r (at p (Some i) w) (cond (x && y) (ending w (between r (behind r p w) c)) dead) bs) (c ∷ bs)
    over true true ex ey t =
        let q : Place = behind r p w in
        let st : Step = between r q c in
        let t' : accepts_on r (at q None []) st bs ≡ true = sym (accepts_ending r p (Some i) w w st bs) ∙ t in
        let f = sound_begun r l bs ih c q (r.begins c) (admits r q c) refl refl t' in
        let ws : List Word = words_on r (at q None []) st bs in
        let same : words_on r (at p (Some i) w) (ending w st) bs ≡ (w ++ []) ∷ ws =
        words_ending r p (Some i) w w st bs (and_parts (alive st) _ t').0 ∙ ap (λ (u : Word). u ∷ ws) (sym (append-nil w)) in
        let loose_one : loose (r.kind b) ≡ true = l.whole_is_loose i b v live.0 ex in
        record {
          tail = [];
          rest = c ∷ bs;
          more = ws;
          words_are = same;
          bytes_are = refl;
          spelt = ex;
          follows = subst (λ (x : Bool). FollowsKind r.delimits x (c ∷ bs)) (sym loose_one) ey;
          written = f.0;
          parse = f.1;
        }
    over true false ex ey t = absurd (false≢true t)
    over false y ex ey t = absurd (false≢true t)

-- from every sane state
pub sound : (r : Rules) → Lawful r → (bs : List ℕ) → Sound r bs
sound r l [] p None w sane h = (nothing, h)
sound r l [] p (Some i) [] sane h = absurd sane
sound r l [] p (Some i) (b ∷ v) sane h =
    let w : Word = b ∷ v in
    let f = and_parts (r.whole i w) _ h in
    let nil = append-nil w in
    let loose_one : loose (r.kind b) ≡ true = l.whole_is_loose i b v sane.0 f.0 in
    record {
      tail = [];
      rest = [];
      more = [];
      words_are = ap (λ (u : Word). u ∷ []) (sym nil);
      bytes_are = refl;
      spelt = f.0;
      follows = subst (λ (x : Bool). FollowsKind r.delimits x []) (sym loose_one) tt;
      written = nothing;
      parse = f.1;
    }
sound r l (b ∷ bs) p None (c ∷ w) sane h = absurd sane
sound r l (b ∷ bs) p None [] sane h = sound_begun r l bs (sound r l bs) b p (r.begins b) (admits r p b) refl refl h
sound r l (c ∷ bs) p (Some i) [] sane h = absurd sane
sound r l (c ∷ bs) p (Some i) (b ∷ v) sane h = sound_turned r l bs (sound r l bs) c p i b v sane (r.turns i (b ∷ v) c) refl h
