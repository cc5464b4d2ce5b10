-- What each step of a word reader leaves.
use Rattle.std.proofs.Common.{◌≡◌, ℕ, ◌+◌, ◌-◌, ◌<◌, ◌≤◌, nat_le, cond, not, List, [], ◌∷◌, ◌++◌, length, take, drop, Some, None, Ok, Err, Option, sym, refl, ap, ◌∙◌, subst, ⊎_elim, arith}
use Rattle.std.proofs.lemmas.List.{append-nil, drop_more, drop_all}
use Rattle.std.proofs.lemmas.Bool.{le-leb, lt-leb, cond-true, cond-false, cases_lt}
use Rattle.grammar.specs.declared.refusal.Refusal.{Refusal}
use Rattle.grammar.specs.Refusals.{number_of}
use Rattle.grammar.specs.Meaning.{Word as Bytes}
use Rattle.rules.specs.Rules.{Rules, loose}
use Rattle.rules.specs.Machine.{State, means}
use Rattle.rules.specs.Lawful.{Lawful}
use Rattle.reading.specs.Places.{Placed, placed_at}
use Rattle.reading.specs.Story.{Story, whole, broken, before, story}
use Rattle.reading.specs.Fit.{Fit}
use Rattle.reader.specs.Endings.{described_at}
use Rattle.reader.specs.State.{Reading}
use Rattle.reader.specs.declared.ended.Ended.{Ended}
use Rattle.words.specs.declared.fault.ReadFault.{ReadFault}
use Rattle.words.specs.declared.word.Word.{Word}
use Rattle.words.specs.Handed.{kind_of, placed_of, OfKind, Handed, Takes}
use Rattle.words.specs.Left.{rest, left_by, unread_by, LastBytes, AllGood, SoundBy, waiting}
use Rattle.words.specs.declared.words.Words.TheInside.{Inside}
use Rattle.words.specs.Fields.{waits, Sound}
use Rattle.words.proofs.Waits.{First, first_waits, none_waits}
use Rattle.words.proofs.Turns.{byte_turns, end_turns}

-- before the end, and behind it
rest_before : (r : Rules) (text : List ℕ) (n : ℕ) (s : State) → n ≤ length text → rest r text n s ≡ story r.kind (means r s) n (drop n text)
rest_before r text n s h = cond-true (nat_le n (length text)) (story r.kind (means r s) n (drop n text)) (record { told = []; close = whole }) (le-leb n (length text) h)

rest_behind : (r : Rules) (text : List ℕ) (n : ℕ) (s : State) → length text < n → rest r text n s ≡ record { told = []; close = whole }
rest_behind r text n s h = cond-false (nat_le n (length text)) (story r.kind (means r s) n (drop n text)) (record { told = []; close = whole }) (lt-leb n (length text) h)

before_none : (ws : List Placed) (s : Story) → ws ≡ [] → before ws s ≡ s
before_none ws s e = ap (λ (xs : List Placed). before xs s) e

-- handing out the first word that waits, and telling that none is left
pub hands_word : (r : Rules) (fault : Option ReadFault) (text : List ℕ) (n : ℕ) (s : State) (ws : List Bytes) (m : ℕ) (e : Ended) (place : ℕ) (w : Word) → fault ≡ None → First r text n ws m e place
    → kind_of w ≡ e.kind → placed_of w ≡ record { place = place; word = take ((place + e.len) - place) (drop place text) } → Handed r (left_by r fault text n s (waiting r n ws m)) (left_by r fault text n s (waiting r n ws (m + 1))) (Some (Ok w))
hands_word r (Some f) text n s ws m e place w ok first kind placed = cc
hands_word r None text n s ws m e place w ok first kind placed =
    let part : placed_of w ≡ record { place = place; word = take e.len (drop place text) } = placed ∙ ap (λ (k : ℕ). record { place = place; word = take k (drop place text) }) (omega arith) in
    let same : waiting r n ws m ≡ placed_of w ∷ waiting r n ws (m + 1) = first.waits ∙ ap (λ (x : Placed). x ∷ waiting r n ws (m + 1)) (sym part) in (
      ap (λ (xs : List Placed). xs ++ (rest r text n s).told) same,
      refl,
      subst (λ (x : Placed). OfKind r x.word (kind_of w)) (sym part) (subst (OfKind r (take e.len (drop place text))) (sym kind) first.kind),
    )

pub hands_none : (r : Rules) (fault : Option ReadFault) (text : List ℕ) (n : ℕ) (s : State) (ws : List Placed) → fault ≡ None → length text < n → ws ≡ []
    → Handed r (left_by r fault text n s ws) (left_by r fault text n s ws) None
hands_none r None text n s ws ok h e =
    let left = before_none ws (rest r text n s) e ∙ rest_behind r text n s h in
    (ap (λ (x : Story). x.told) left, ap (λ (x : Story). x.close) left, refl)
hands_none r (Some f) text n s ws ok h e = cc

-- a byte is taken, or the end
pub record Stays (r : Rules) (fault : Option ReadFault) (text : List ℕ) (n : ℕ) (s : State) (ws : List Placed) (v : Reading) : Type 0 where
  pub left : left_by r fault text (n + 1) v.state (waiting r (n + 1) v.ended 0) ≡ left_by r fault text n s ws
  pub sound : SoundBy r fault text (n + 1) v.state (waiting r (n + 1) v.ended 0)

last_of : (n : ℕ) → (n + 1) - 1 ≡ n
last_of n = omega arith

-- the words that wait behind it, and the story that is left
stays : (r : Rules) (text : List ℕ) (n : ℕ) (s : State) (ws : List Placed) (v : Reading) → n ≤ length text → ws ≡ [] → story r.kind (means r s) n (drop n text) ≡ before (placed_at r.kind n v.ended) (rest r text (n + 1) v.state)
    → (n + 1 ≤ length text → Fit r v.state × LastBytes v.state.word (take (n + 1) text)) → AllGood text (placed_at r.kind n v.ended) → Stays r None text n s ws v
stays r text n s ws v h e same fits parts =
    let more : ℕ → List Placed = λ k. placed_at r.kind k v.ended in
    record {
      left = rw (last_of, e, rest_before r text n s h) (sym same);
      sound = (fits, subst (λ (k : ℕ). AllGood text (more k)) (sym (last_of n)) parts);
    }

at_byte : (r : Rules) → Lawful r → (text : List ℕ) (n : ℕ) (s : State) (ws : List Placed) (v : Reading) → n < length text → ws ≡ [] → SoundBy r None text n s ws → Takes r s (drop n text) v (Ok tt) → Stays r None text n s ws v
at_byte r l text n s ws v h e sound t =
    let w = subst (λ (xs : List ℕ). Takes r s xs v (Ok tt)) (drop_more text n 0 h) t in
    let f = sound.0 (omega arith) in
    let u = byte_turns r l text n s v h f.0 f.1 w in
    stays r text n s ws v (omega arith) e (u.same ∙ ap (before (placed_at r.kind n v.ended)) (sym (rest_before r text (n + 1) v.state (omega arith)))) (λ k. (u.fits, u.last)) u.parts

at_end : (r : Rules) → Lawful r → (text : List ℕ) (n : ℕ) (s : State) (ws : List Placed) (v : Reading) → length text ≤ n → n ≤ length text → ws ≡ [] → SoundBy r None text n s ws → Takes r s (drop n text) v (Ok tt) → Stays r None text n s ws v
at_end r l text n s ws v h m e sound t =
    let w = subst (λ (xs : List ℕ). Takes r s xs v (Ok tt)) (drop_all n text h) t in
    let f = sound.0 m in
    let u = end_turns r l text n s v.ended v.given h m f.0 f.1 w.answered in
    let there = ap (before (placed_at r.kind n v.ended)) (rest_behind r text (n + 1) v.state (omega arith)) in
    stays r text n s ws v m e (u.0 ∙ (ap (λ (xs : List Placed). record { told = xs; close = whole }) (sym (append-nil (placed_at r.kind n v.ended))) ∙ sym there)) (λ k. absurd (omega arith)) u.1

pub taken : (r : Rules) → Lawful r → (fault : Option ReadFault) (text : List ℕ) (n : ℕ) (s : State) (ws : List Placed) (v : Reading) → fault ≡ None → n ≤ length text → ws ≡ [] → SoundBy r fault text n s ws → Takes r s (drop n text) v (Ok tt) → Stays r fault text n s ws v
taken r l (Some f) text n s ws v ok h e sound t = cc
taken r l None text n s ws v ok h e sound t = ⊎_elim (λ k. at_byte r l text n s ws v k e sound t) (λ k. at_end r l text n s ws v k h e sound t) (cases_lt n (length text))

-- or refused
refused_by : (r : Rules) (s : State) (n : ℕ) (xs : List ℕ) (v : Reading) (d : Refusal) → Takes r s xs v (Err d) → story r.kind (means r s) n xs ≡ record { told = []; close = broken (number_of d) n }
refused_by r s n [] v d t = rw t.0
refused_by r s n (b ∷ xs) v d t = rw t.0

pub breaks : (r : Rules) (fault : Option ReadFault) (text : List ℕ) (n : ℕ) (s s' : State) (ws ws' : List Placed) (v : Reading) (d : Refusal) → fault ≡ None → n ≤ length text → ws ≡ [] → Takes r s (drop n text) v (Err d)
    → left_by r (Some (record { refusal = d; place = n })) text n s' ws' ≡ left_by r fault text n s ws
breaks r (Some f) text n s s' ws ws' v d ok h e t = cc
breaks r None text n s s' ws ws' v d ok h e t = rw (e, rest_before r text n s h) (sym (refused_by r s n (drop n text) v d t))

pub fewer : (fault : Option ReadFault) (text : List ℕ) (n : ℕ) → fault ≡ None → n ≤ length text → (unread_by fault text (n + 1) < unread_by fault text n) × (0 < unread_by fault text n)
fewer None text n ok h = (omega arith, omega arith)
fewer (Some f) text n ok h = cc

-- of a word reader that no refusal has ended: the first word that waits, and that none does
good : (r : Rules) (fault : Option ReadFault) (text : List ℕ) (n : ℕ) (s : State) (ws : List Placed) → fault ≡ None → SoundBy r fault text n s ws → AllGood text ws
good r None text n s ws ok sound = sound.1
good r (Some f) text n s ws ok sound = cc

pub first : {L : Type 0} (r : Rules) (v : Inside L) (o : Option Ended) (e : Ended) (place : ℕ) → Sound r v → v.fault ≡ None → o ≡ described_at r v.reader.ended v.handed → o ≡ Some e → place ≡ cond (not (loose e.kind)) v.taken (v.taken - 1) - e.len
    → First r v.text.now v.taken v.reader.ended v.handed e place
first r v o e place sound ok told is at_it = first_waits r v.text.now v.taken v.reader.ended v.handed e place (sym told ∙ is) (good r v.fault v.text.now v.taken v.reader.state (waits r v) ok sound) at_it

pub none : {L : Type 0} (r : Rules) (v : Inside L) (o : Option Ended) → Sound r v → v.fault ≡ None → o ≡ described_at r v.reader.ended v.handed → o ≡ None → waits r v ≡ []
none r v o sound ok told is = none_waits r v.text.now (v.taken - 1) v.reader.ended v.handed (sym told ∙ is) (good r v.fault v.text.now v.taken v.reader.state (waits r v) ok sound)
