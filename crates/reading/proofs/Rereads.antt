-- Every free writing of the tokens that stand for words writes these words again.
use Rattle.std.proofs.Common.{◌≡◌, ℕ, zero, suc, ◌<◌, Bool, true, false, ◌⊎◌, List, [], ◌∷◌, ◌++◌, Some, None, Option, sym, refl, ap, ◌∙◌, subst, inl, inr, ⊎_elim, append_assoc, arith}
use Rattle.std.proofs.lemmas.List.{append-nil}
use Rattle.std.proofs.lemmas.Bool.{false≢true, and_parts}
use Rattle.layout.specs.Tokens.{Token, Text}
use Rattle.layout.specs.Layout.{blanks, ended, joined}
use Rattle.layout.specs.Writings.{Choice, as_blanks, as_line, chosen, shown, shown_all, free_writing}
use Rattle.grammar.specs.Meaning.{Word}
use Rattle.rules.specs.declared.place.Move.{Move}
use Rattle.rules.specs.declared.place.Move.TheVariants.{Within, Opens, Closes}
use Rattle.layout.specs.declared.token.Break.{Break as Lead}
use Rattle.layout.specs.declared.token.Opening.{Opening as BlockForm}
use Rattle.rules.specs.Rules.{Rules, Place, loose, is_some, moves_at, admits, placed, moved, behind, led, opened, closed, word_tokens, stand_for}
use Rattle.rules.specs.Language.{WrittenBy, blank_byte, word_then, nothing, Delimited, FollowsKind, is_blank, blank_of, parses}
use Rattle.rules.specs.Lawful.{Lawful, Apart, AllSpelled}

-- bytes that stand between words in every grammar: blanks and newlines
abbrev Gap : List ℕ → Type 0
Gap [] = Unit {0}
Gap (b ∷ bs) = ((b ≡ 0x20) ⊎ (b ≡ 0x0A)) × Gap bs

gap_blanks : (n : ℕ) → Gap (blanks n)
gap_blanks zero = tt
gap_blanks (suc n) = (inl refl, gap_blanks n)

gap_blank : (r : Rules) → Lawful r → (b : ℕ) → (b ≡ 0x20) ⊎ (b ≡ 0x0A) → blank_of r b ≡ true
gap_blank r l b (inl e) = ap (blank_of r) e ∙ ap is_blank l.blank_is_blank
gap_blank r l b (inr e) = ap (blank_of r) e ∙ ap is_blank l.newline_is_blank

gap_delimits : (r : Rules) → Lawful r → (b : ℕ) → (b ≡ 0x20) ⊎ (b ≡ 0x0A) → r.delimits b ≡ true
gap_delimits r l b (inl e) = ap r.delimits e ∙ l.blank_delimits
gap_delimits r l b (inr e) = ap r.delimits e ∙ l.newline_delimits

written_gap : (r : Rules) → Lawful r → (g bs : List ℕ) (ws : List Word) → Gap g → WrittenBy r ws bs → WrittenBy r ws (g ++ bs)
written_gap r l [] bs ws h wr = wr
written_gap r l (b ∷ g) bs ws h wr = blank_byte b (gap_blank r l b h.0) (written_gap r l g bs ws h.1 wr)

delimited_gap : (r : Rules) → Lawful r → (g bs : List ℕ) → Gap g → Delimited r.delimits bs → Delimited r.delimits (g ++ bs)
delimited_gap r l [] bs h d = d
delimited_gap r l (b ∷ g) bs h d = gap_delimits r l b h.0

-- choices for the tokens behind these
abbrev shifted : (ℕ → Choice) → List Token → ℕ → Choice
shifted c [] = c
shifted c (t ∷ ts) = shifted (λ k. c (suc k)) ts

shown_append : (c : ℕ → Choice) (ts us : List Token) → shown_all c (ts ++ us) ≡ shown_all c ts ++ shown_all (shifted c ts) us
shown_append c [] us = refl
shown_append c (t ∷ ts) us = ap (λ (xs : List ℕ). shown (c 0) t ++ xs) (shown_append (λ k. c (suc k)) ts us) ∙ sym (append_assoc (shown (c 0) t) (shown_all (λ k. c (suc k)) ts) (shown_all (shifted (λ k. c (suc k)) ts) us))

-- the gap that a word's Break makes: it has a byte where the Break has a blank
abbrev GapOf : Option Lead → List ℕ → Type 0
GapOf None g = g ≡ []
GapOf (Some k) [] = 0 < k.blanks → ⊥
GapOf (Some k) (b ∷ g) = Unit {0}

gap_of_blanks : (k : Lead) (n : ℕ) → k.blanks ≡ n → GapOf (Some k) (blanks n)
gap_of_blanks k zero e = λ h. omega arith
gap_of_blanks k (suc n) e = tt

gap_chosen : (k : Lead) (c : Choice) → Gap (chosen c k.blanks) × GapOf (Some k) (chosen c k.blanks)
gap_chosen k as_blanks = (gap_blanks k.blanks, gap_of_blanks k k.blanks refl)
gap_chosen k (as_line n) = ((inr refl, gap_blanks n), tt)

-- an Opening and an Ending write nothing
text_shown : (c : ℕ → Choice) (f : BlockForm) (m : Option Move) (bytes : List ℕ) → shown_all c (opened f m ++ (Text bytes ∷ closed m)) ≡ bytes ++ []
text_shown c f None bytes = refl
text_shown c f (Some (Within e)) bytes = refl
text_shown c f (Some (Opens k)) bytes = refl
text_shown c f (Some Closes) bytes = refl

-- how a word's tokens are written: a gap, and its Text
record ShownWord (r : Rules) (p : Place) (b : ℕ) (v : Word) (out : List ℕ) : Type 0 where
  gap : List ℕ
  is_gap : Gap gap
  of_lead : GapOf (r.lead p.expects b) gap
  same : out ≡ gap ++ r.text (b ∷ v)

led_shown : (c : ℕ → Choice) (r : Rules) (p : Place) (b : ℕ) (v : Word) (k : Option Lead) (ts : List Token) → r.lead p.expects b ≡ k → ((d : ℕ → Choice) → shown_all d ts ≡ r.text (b ∷ v)) → ShownWord r p b v (shown_all c (led k ++ ts))
led_shown c r p b v None ts e h = record { gap = []; is_gap = tt; of_lead = subst (λ (x : Option Lead). GapOf x []) (sym e) refl; same = h c }
led_shown c r p b v (Some k) ts e h =
    let g = gap_chosen k (c 0) in
    record {
      gap = chosen (c 0) k.blanks;
      is_gap = g.0;
      of_lead = subst (λ (x : Option Lead). GapOf x (chosen (c 0) k.blanks)) (sym e) g.1;
      same = ap (λ (xs : List ℕ). chosen (c 0) k.blanks ++ xs) (h (λ i. c (suc i)));
    }

shown_word : (c : ℕ → Choice) (r : Rules) (p : Place) (b : ℕ) (v : Word) → ShownWord r p b v (shown_all c (word_tokens r p (b ∷ v)))
shown_word c r p b v =
    let m : Option Move = moves_at r p b in
    led_shown c r p b v (r.lead p.expects b) (opened r.block m ++ (Text (r.text (b ∷ v)) ∷ closed m)) refl
    (λ d. text_shown d r.block m (r.text (b ∷ v)) ∙ append-nil (r.text (b ∷ v)))

-- a Text is its word and perhaps a blank
text_pad : (r : Rules) → Lawful r → (b : ℕ) (v : Word) → (pad : List ℕ) × (r.text (b ∷ v) ≡ (b ∷ v) ++ pad) × Gap pad
text_pad r l b v = ⊎_elim
    (λ e. ([], e ∙ sym (append-nil (b ∷ v)), tt))
    (λ e. (0x20 ∷ [], e.1 ∙ ap (λ (x : Word). (b ∷ x) ++ 0x20 ∷ []) (sym e.0), (inl refl, tt)))
    (l.text_is_word b v)

-- behind a loose word the next byte written delimits it
apart_delimits : (r : Rules) → Lawful r → (k : Option Lead) (g : List ℕ) (c : ℕ) (x : List ℕ) → Gap g → GapOf k g → Apart k (r.delimits c) → Delimited r.delimits (g ++ c ∷ x)
apart_delimits r l k (b ∷ g) c x h o a = gap_delimits r l b h.0
apart_delimits r l None [] c x h o a = a
apart_delimits r l (Some k) [] c x h o (inl n) = absurd (o n)
apart_delimits r l (Some k) [] c x h o (inr d) = d

-- what a place admits, it does something with
admitted_move : (m : Option Move) → is_some m ≡ true → (n : Move) × (m ≡ Some n)
admitted_move None h = absurd (false≢true h)
admitted_move (Some n) h = (n, refl)

-- the words from here on, written by free choice
abbrev out_of : Rules → (ℕ → Choice) → Place → List Word → List ℕ → List ℕ
out_of r c p ws tail = shown_all c (stand_for r p ws) ++ tail

out_word : (r : Rules) (c : ℕ → Choice) (p : Place) (b : ℕ) (v : Word) (ws : List Word) (tail pad : List ℕ) (s : ShownWord r p b v (shown_all c (word_tokens r p (b ∷ v)))) → r.text (b ∷ v) ≡ (b ∷ v) ++ pad
    → out_of r c p ((b ∷ v) ∷ ws) tail ≡ s.gap ++ ((b ∷ v) ++ (pad ++ out_of r (shifted c (word_tokens r p (b ∷ v))) (behind r p (b ∷ v)) ws tail))
out_word r c p b v ws tail pad s e =
    let t : List Token = word_tokens r p (b ∷ v) in
    let d : ℕ → Choice = shifted c t in
    let rest : List ℕ = shown_all d (stand_for r (behind r p (b ∷ v)) ws) in
    let g : List ℕ = s.gap in
    ap (λ (xs : List ℕ). xs ++ tail) (shown_append c t (stand_for r (behind r p (b ∷ v)) ws))
    ∙ (append_assoc (shown_all c t) rest tail
    ∙ (ap (λ (xs : List ℕ). xs ++ (rest ++ tail)) (s.same ∙ ap (λ (xs : List ℕ). g ++ xs) e)
    ∙ (append_assoc g ((b ∷ v) ++ pad) (rest ++ tail)
    ∙ ap (λ (xs : List ℕ). g ++ xs) (append_assoc (b ∷ v) pad (rest ++ tail)))))

delimited_out : (r : Rules) → Lawful r → (c : ℕ → Choice) (p : Place) (b : ℕ) (m : Move) (ws : List Word) (tail : List ℕ) → loose (r.kind b) ≡ true → moves_at r p b ≡ Some m → Delimited r.delimits tail
    → parses r (moved m p.brackets) ws ≡ true → Delimited r.delimits (out_of r c (moved m p.brackets) ws tail)
delimited_out r l c p b m [] tail lo em d f = d
delimited_out r l c p b m ([] ∷ ws) tail lo em d f = absurd (false≢true f)
delimited_out r l c p b m ((x ∷ v) ∷ ws) tail lo em d f =
    let q : Place = moved m p.brackets in
    let s = shown_word c r q x v in
    let t = text_pad r l x v in
    let n = admitted_move (moves_at r q x) (and_parts (admits r q x) _ f).0 in
    let a = l.apart p b x m n.0 lo em n.1 in
    subst (Delimited r.delimits) (sym (out_word r c q x v ws tail t.0 s t.1))
    (apart_delimits r l (r.lead q.expects x) s.gap x _ s.is_gap s.of_lead a)

follows_out : (r : Rules) → Lawful r → (c : ℕ → Choice) (p : Place) (b : ℕ) (v : Word) (ws : List Word) (tail pad : List ℕ) → Gap pad → admits r p b ≡ true → Delimited r.delimits tail
    → parses r (behind r p (b ∷ v)) ws ≡ true → (x : Bool) → loose (r.kind b) ≡ x → FollowsKind r.delimits x (pad ++ out_of r c (behind r p (b ∷ v)) ws tail)
follows_out r l c p b v ws tail pad gp a d f false e = tt
follows_out r l c p b v ws tail pad gp a d f true e =
    let n = admitted_move (moves_at r p b) a in
    let same : behind r p (b ∷ v) ≡ moved n.0 p.brackets = ap (λ (o : Option Move). placed o p) n.1 in
    delimited_gap r l pad (out_of r c (behind r p (b ∷ v)) ws tail) gp
    (subst (λ (q : Place). Delimited r.delimits (out_of r c q ws tail)) (sym same)
    (delimited_out r l c p b n.0 ws tail e n.1 d (subst (λ (q : Place). parses r q ws ≡ true) same f)))

pub written_out : (r : Rules) → Lawful r → (c : ℕ → Choice) (p : Place) (ws : List Word) (tail : List ℕ) → AllSpelled r ws → parses r p ws ≡ true → Delimited r.delimits tail → WrittenBy r [] tail
    → WrittenBy r ws (out_of r c p ws tail)
written_out r l c p [] tail good f d e = e
written_out r l c p ([] ∷ ws) tail good f d e = absurd (false≢true f)
written_out r l c p ((b ∷ v) ∷ ws) tail good f d e =
    let s = shown_word c r p b v in
    let t = text_pad r l b v in
    let q : Place = behind r p (b ∷ v) in
    let c' : ℕ → Choice = shifted c (word_tokens r p (b ∷ v)) in
    let parts = and_parts (admits r p b) (parses r q ws) f in
    let rest : List ℕ = out_of r c' q ws tail in
    subst (WrittenBy r ((b ∷ v) ∷ ws)) (sym (out_word r c p b v ws tail t.0 s t.1))
    (written_gap r l s.gap ((b ∷ v) ++ (t.0 ++ rest)) ((b ∷ v) ∷ ws) s.is_gap
    (word_then (b ∷ v) (t.0 ++ rest) good.0 refl (follows_out r l c' p b v ws tail t.0 t.2 parts.0 d parts.1 (loose (r.kind b)) refl)
    (written_gap r l t.0 rest ws t.2 (written_out r l c' q ws tail good.1 parts.1 d e))))

-- with the newline behind all, if there was a token
pub written_free : (r : Rules) → Lawful r → (c : ℕ → Choice) (p : Place) (ws : List Word) → AllSpelled r ws → parses r p ws ≡ true → WrittenBy r ws (free_writing c (stand_for r p ws))
written_free r l c p ws good f = written_out r l c p ws (joined (ended (stand_for r p ws))) good f (tail_delimited (stand_for r p ws)) (tail_written (stand_for r p ws))
  where
    tail_delimited : (ts : List Token) → Delimited r.delimits (joined (ended ts))
    tail_delimited [] = tt
    tail_delimited (t ∷ ts) = l.newline_delimits

    tail_written : (ts : List Token) → WrittenBy r [] (joined (ended ts))
    tail_written [] = nothing
    tail_written (t ∷ ts) = blank_byte 0x0A (ap is_blank l.newline_is_blank) nothing
