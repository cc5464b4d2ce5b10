-- A word under way that is over: where it leaves the machine, and the tokens that stand for it.
use Rattle.std.proofs.Common.{◌≡◌, ℕ, Bool, true, false, cond, ◌&&◌, List, [], ◌∷◌, ◌++◌, ◌<◌, length, get_or, Some, None, Option, sym, refl, ap, ◌∙◌, subst, arith}
use Rattle.std.proofs.lemmas.List.{append-nil}
use Rattle.std.proofs.lemmas.Bool.{and_from, cond-true}
use Rattle.layout.specs.Tokens.{Token}
use Rattle.grammar.specs.Meaning.{Word, end, Answer, gives, refused}
use Rattle.layout.specs.declared.token.Break.{Break as Lead}
use Rattle.rules.specs.declared.word.Inside.{Inside}
use Rattle.rules.specs.declared.word.Begin.TheVariants.{Sole, Starts}
use Rattle.rules.specs.declared.word.Turn.TheVariants.{Closes as ClosesWord, Never as NeverTurns}
use Rattle.rules.specs.declared.place.Bracket.{Bracket}
use Rattle.rules.specs.declared.place.Expects.{Expects}
use Rattle.rules.specs.declared.place.Move.{Move}
use Rattle.rules.specs.declared.place.Move.TheVariants.{Within, Opens, Closes as ClosesBracket}
use Rattle.rules.specs.Rules.{Rules, Place, moves_at, moved, behind, behind_all, word_tokens, stand_for}
use Rattle.rules.specs.Machine.{State, Step, on, dead, step, judged, between, ending, low, short, all_short, all_low, no_brackets, reply}
use Rattle.rules.specs.Lawful.{Lawful, Begun, first_byte, one_more, Reached}
use Rattle.reading.specs.Accepts.{at}
use Rattle.reading.proofs.Fit.{reached_behind}
use Rattle.reading.proofs.Steps.{went, goes}
use Rattle.reader.specs.declared.piece.Piece.{Piece}
use Rattle.reader.specs.declared.over.Own.{Own}
use Rattle.reader.specs.Pieces.{piece_for, piece_at, piece_of, piece_tokens, own_word, own_tokens}
use Rattle.reader.specs.State.{Held, state_of, Sound, Around, expecting}
use Rattle.reader.specs.Goes.{Went, Closed}

-- what stands around a word says what it does
piece_parts : (lead : Option Lead) (m : Option Move) (k : Piece) → piece_for lead m ≡ Some k → (m ≡ Some k.step) × (lead ≡ k.lead)
piece_parts lead None k e = cc
piece_parts lead (Some m) k e = (cc, cc)

tokens_of_piece : (r : Rules) (p : Place) (b : ℕ) (w : Word) (k : Piece) → piece_at r p b ≡ Some k → word_tokens r p (b ∷ w) ≡ piece_tokens r k (b ∷ w)
tokens_of_piece r p b w k e =
    let m = piece_parts (r.lead p.expects b) (moves_at r p b) k e in
    rw (m.0, m.1)

-- a word under way has begun, and so only changes what may come next
abbrev StartsFirst : Rules → Word → Type 0
StartsFirst r [] = ⊥
StartsFirst r (b ∷ w) = (i : Inside) × (r.begins b ≡ Starts i)

starts_longer : (r : Rules) (w : Word) (b : ℕ) → StartsFirst r w → StartsFirst r (w ++ b ∷ [])
starts_longer r [] b s = absurd s
starts_longer r (c ∷ w) b s = s

starts : (r : Rules) (i : Inside) (w : Word) → Begun r i w → StartsFirst r w
starts r i w (first_byte j b e) = (j, e)
starts r i w (one_more j k u x b g e same) = subst (StartsFirst r) (sym same) (starts_longer r u b (starts r j u g))

-- So it leaves the same brackets open; and these are the tokens that stand for it, also if one byte more belongs to it.
pub record IsOver (r : Rules) (p : Place) (w v : Word) (k : Piece) : Type 0 where
  pub place : behind r p v ≡ expecting (moved k.step []).expects p
  pub tokens : word_tokens r p v ≡ piece_tokens r k v
  pub sound : Sound r (at (expecting (moved k.step []).expects p) None [])

over_first : (r : Rules) → Lawful r → (p : Place) (i : Inside) (b : ℕ) (w v : Word) (k : Piece) → Sound r (at p (Some i) (b ∷ w)) → piece_at r p b ≡ Some k → IsOver r p (b ∷ w) (b ∷ v) k
over_first r l p i b w v k h e =
    let m = piece_parts (r.lead p.expects b) (moves_at r p b) k e in
    let s = starts r i (b ∷ w) h.fit.0.0 in
    let x = l.started_stays b s.0 p.expects _ k.step s.1 m.0 in
    let q : behind r p (b ∷ v) ≡ expecting (moved k.step []).expects p = rw (m.0, x.1) in
    record {
      place = q;
      tokens = tokens_of_piece r p b v k e;
      sound = record { fit = (tt, subst (Reached r) q (reached_behind r p i b w h.fit.0 h.fit.1)); shallow = h.shallow };
    }

-- the word under way is over
pub over : (r : Rules) → Lawful r → (p : Place) (i : Inside) (w : Word) (k : Piece) → Sound r (at p (Some i) w) → piece_of r p w ≡ Some k → IsOver r p w w k
over r l p i [] k h e = absurd h.fit.0
over r l p i (b ∷ w) k h e = over_first r l p i b w w k h e

-- with its last byte
pub closes : (r : Rules) → Lawful r → (p : Place) (i : Inside) (w : Word) (c : ℕ) (k : Piece) → Sound r (at p (Some i) w) → piece_of r p w ≡ Some k → r.turns i w c ≡ ClosesWord → short (w ++ c ∷ []) ≡ true
    → Went r (at p (Some i) w) c (record { state = at (expecting (moved k.step []).expects p) None []; ended = (w ++ c ∷ []) ∷ []; given = piece_tokens r k (w ++ c ∷ []) ++ [] })
closes r l p i [] c k h e t small = absurd h.fit.0
closes r l p i (b ∷ w) c k h e t small =
    let v : Word = (b ∷ w) ++ c ∷ [] in
    let s : State = at p (Some i) (b ∷ w) in
    let o = over_first r l p i b w (w ++ c ∷ []) k h e in
    let stepped : step r s c ≡ on None [] (v ∷ []) = rw t in
    let lows = and_from (low (behind r p v)) true (ap low o.place ∙ h.shallow) refl in
    let answered = (went r s (on None [] (v ∷ [])) (goes r s (on None [] (v ∷ [])) refl (and_from (short v) true small refl) lows)).answered in
    record { stepped = stepped; place = sym o.place; answered = ap (judged r s) stepped ∙ (answered ∙ ap (λ (ts : List Token). gives (v ∷ []) (ts ++ [])) o.tokens) }

-- a word of one byte
moved_place : (p : Place) (m : Move) → moved m p.brackets ≡ record { expects = (moved m []).expects; brackets = (moved m p.brackets).brackets }
moved_place p (Within e) = refl
moved_place p (Opens b) = refl
moved_place p ClosesBracket = refl

pub sole : (r : Rules) (p : Place) (b : ℕ) (k : Piece) (ks : List Bracket) → r.begins b ≡ Sole → piece_at r p b ≡ Some k → ks ≡ (moved k.step p.brackets).brackets → low (moved k.step p.brackets) ≡ true
    → Went r (at p None []) b (record { state = at (record { expects = (moved k.step []).expects; brackets = ks }) None []; ended = (b ∷ []) ∷ []; given = piece_tokens r k (b ∷ []) })
sole r p b k ks e piece same few =
    let s : State = at p None [] in
    let ws : List Word = (b ∷ []) ∷ [] in
    let m = piece_parts (r.lead p.expects b) (moves_at r p b) k piece in
    let stepped : step r s b ≡ on None [] ws = rw (e, m.0) in
    let answered = (went r s (on None [] ws) (goes r s (on None [] ws) refl refl (rw (m.0, few)))).answered in
    record {
      stepped = stepped;
      place = rw (same, m.0) (sym (moved_place p k.step));
      answered = ap (judged r s) stepped ∙ (answered ∙ ap (λ (ts : List Token). gives ws ts) (append-nil (word_tokens r p (b ∷ [])) ∙ tokens_of_piece r p b [] k piece));
    }

-- a word ended before what a step ends
abbrev after_word : Word → List Token → Answer → Answer
after_word w ts (refused n) = refused n
after_word w ts (gives ws us) = gives (w ∷ ws) (ts ++ us)

after_cond : (w : Word) (ts : List Token) (ws : List Word) (us : List Token) (x y : Bool) → cond x (cond y (gives (w ∷ ws) (ts ++ us)) (refused 5)) (refused 4) ≡ after_word w ts (cond x (cond y (gives ws us) (refused 5)) (refused 4))
after_cond w ts ws us true true = refl
after_cond w ts ws us true false = refl
after_cond w ts ws us false y = refl

judged_ending : (r : Rules) (s : State) (w : Word) (st : Step) → short w ≡ true → low (behind r s.place w) ≡ true → judged r s (ending w st) ≡ after_word w (word_tokens r s.place w) (judged r (at (behind r s.place w) None []) st)
judged_ending r s w dead x y = refl
judged_ending r s w (on io v ws) x y =
    let p : Place = behind r s.place w in
    let ts : List Token = word_tokens r s.place w in
    let G : Answer = gives (w ∷ ws) (ts ++ stand_for r p ws) in
    ap (λ (t : Bool). cond (short v && (t && all_short ws)) (cond (low p && all_low r p ws) G (refused 5)) (refused 4)) x
    ∙ (ap (λ (t : Bool). cond (short v && all_short ws) (cond (t && all_low r p ws) G (refused 5)) (refused 4)) y
    ∙ after_cond w ts ws (stand_for r p ws) (short v && all_short ws) (all_low r p ws))

-- before a byte that is no part of it: the byte does what it does where x may come
module _ (r : Rules) (l : Lawful r) (p : Place) (i : Inside) (w : Word) (c : ℕ) (k : Piece) (x : Expects) (h : Sound r (at p (Some i) w)) (e : piece_of r p w ≡ Some k)
    (behind_it : x ≡ (moved k.step []).expects) (t : r.turns i w c ≡ NeverTurns) (ends : (r.whole i w && r.delimits c) ≡ true) (small : short w ≡ true) where
  there : behind r p w ≡ expecting x p
  there = (over r l p i w k h e).place ∙ ap (λ (y : Expects). expecting y p) (sym behind_it)

  stepped_behind : step r (at p (Some i) w) c ≡ ending w (between r (expecting x p) c)
  stepped_behind = rw (t, ends, there)

  answered_behind : judged r (at p (Some i) w) (step r (at p (Some i) w) c) ≡ after_word w (piece_tokens r k w) (judged r (at (expecting x p) None []) (step r (at (expecting x p) None []) c))
  answered_behind = rw (stepped_behind, judged_ending r (at p (Some i) w) w (between r (expecting x p) c) small (rw there h.shallow), there, (over r l p i w k h e).tokens)

  pub went_behind : (s : State) (o : Option Own) → Went r (at (expecting x p) None []) c (record { state = s; ended = own_word o; given = own_tokens r o })
      → Went r (at p (Some i) w) c (record { state = s; ended = (w ∷ []) ++ own_word o; given = piece_tokens r k w ++ own_tokens r o })
  went_behind s o g = record {
    stepped = rw (stepped_behind, g.stepped);
    place = rw (there, behind_all) g.place;
    answered = rw (answered_behind, g.answered);
  }

  pub refused_behind : (n : ℕ) → judged r (at (expecting x p) None []) (step r (at (expecting x p) None []) c) ≡ refused n → judged r (at p (Some i) w) (step r (at p (Some i) w) c) ≡ refused n
  refused_behind n g = rw (answered_behind, g)

-- the same of a machine whose word under way is collected
pub under_state : (h : Held) (i : Inside) → h.inside ≡ Some i → h.waiting ≡ None → state_of h ≡ at h.place (Some i) h.bytes
under_state h i under settled = rw (under, settled)

pub under_sound : (r : Rules) (h₀ h : Held) (i : Inside) → Sound r (state_of h₀) → h₀ ≡ h → h.inside ≡ Some i → h.waiting ≡ None → Sound r (at h.place (Some i) h.bytes)
under_sound r h₀ h i s same under settled = subst (Sound r) (ap state_of same ∙ under_state h i under settled) s

pub has_first : (r : Rules) (p : Place) (i : Inside) (w : Word) → Sound r (at p (Some i) w) → 0 < length w
has_first r p i [] s = absurd s.fit.0
has_first r p i (b ∷ w) s = omega arith

pub piece_first : (r : Rules) (p : Place) (w : Word) → 0 < length w → piece_of r p w ≡ piece_at r p (get_or w 0 0)
piece_first r p [] h = absurd (omega arith)
piece_first r p (b ∷ w) h = refl

pub leaves : (r : Rules) → Lawful r → (h : Held) (i : Inside) (k : Piece) (e : Expects) (q : Place) → Around r h i k → e ≡ (moved k.step []).expects → q ≡ h.place → Sound r (at (expecting e q) None [])
leaves r l h i k e q u behind there =
    rw (behind, there) (over r l h.place i h.bytes k u.sound u.piece).sound

-- the end
pub ends_word : (r : Rules) → Lawful r → (h : Held) (i : Inside) (k : Piece) (e : Expects) (q : Place) → Around r h i k → e ≡ (moved k.step []).expects → q ≡ h.place → (r.whole i h.bytes && no_brackets r (expecting e h.place)) ≡ true
    → Closed r (state_of h) (record { state = at (expecting e q) None []; ended = h.bytes ∷ []; given = piece_tokens r k h.bytes ++ [] })
ends_word r l h i k e q u behind_it there may =
    let o = over r l h.place i h.bytes k u.sound u.piece in
    let same : expecting e h.place ≡ behind r h.place h.bytes = ap (λ (x : Expects). expecting x h.place) behind_it ∙ sym o.place in
    let done = sym (ap (λ (y : Place). r.whole i h.bytes && no_brackets r y) same) ∙ may in
    let ws : List Word = h.bytes ∷ [] in
    record {
      state = ap (λ (y : Place). at (expecting e y) None []) there ∙ ap (λ (y : Place). at y None []) same;
      answered = ap (λ (s : State). reply r s end) u.state ∙ (cond-true (r.whole i h.bytes && no_brackets r (behind r h.place h.bytes)) (gives ws (stand_for r h.place ws)) (refused 6) done ∙ ap (λ (ts : List Token). gives ws (ts ++ [])) o.tokens);
    }
