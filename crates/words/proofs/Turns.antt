-- A byte of the text, or its end, leaves the story as it was.
use Rattle.std.proofs.Common.{◌≡◌, ℕ, suc, ◌+◌, ◌<◌, ◌≤◌, Bool, true, false, cond, List, [], ◌∷◌, ◌++◌, length, get_or, take, drop, sym, refl, ap, ◌∙◌, subst, arith, add-one}
use Rattle.std.proofs.lemmas.List.{append-nil, length-take, take_more, drop_more, take_all, drop_all, take-append-drop}
use Rattle.std.proofs.lemmas.Bool.{both_ways}
use Rattle.layout.specs.Tokens.{Token}
use Rattle.grammar.specs.Meaning.{Word as Bytes, end, Answer, refused, gives, granted, words_of}
use Rattle.rules.specs.Rules.{Rules, stand_for}
use Rattle.rules.specs.Machine.{State, step, next, reply, means, pending, finished}
use Rattle.rules.specs.Lawful.{Lawful}
use Rattle.reading.specs.Places.{placed_at}
use Rattle.reading.specs.Accepts.{step_words}
use Rattle.reading.specs.Story.{Story, whole, before, story, story_byte, story_end, AllParts}
use Rattle.reading.proofs.Fit.{Fit, fit_next}
use Rattle.reading.proofs.Steps.{step_word}
use Rattle.reading.proofs.Tokens.{PlainWords}
use Rattle.reading.proofs.Shows.{plain_stepped, plain_pending}
use Rattle.reading.proofs.Stories.{parts_stepped, parts_end}
use Rattle.reader.specs.State.{Reading}
use Rattle.reader.specs.Goes.{Went}
use Rattle.reader.proofs.Sound.{next_state}
use Rattle.words.specs.Left.{LastBytes, AllGood}

-- words with bytes that are parts of the text
good : (r : Rules) (text : List ℕ) (k : ℕ) (ws : List Bytes) → PlainWords ws → AllParts text (placed_at r.kind k ws) → AllGood text (placed_at r.kind k ws)
good r text k [] plain parts = tt
good r text k (w ∷ ws) plain parts = (plain.0.0, parts.0, good r text k ws plain.1 parts.1)

-- what a byte leaves
pub record Turned (r : Rules) (text : List ℕ) (n : ℕ) (s : State) (v : Reading) : Type 0 where
  pub same : story r.kind (means r s) n (drop n text) ≡ before (placed_at r.kind n v.ended) (story r.kind (means r v.state) (n + 1) (drop (n + 1) text))
  pub fits : Fit r v.state
  pub last : LastBytes v.state.word (take (n + 1) text)
  pub parts : AllGood text (placed_at r.kind n v.ended)

pub byte_turns : (r : Rules) → Lawful r → (text : List ℕ) (n : ℕ) (s : State) (v : Reading) → n < length text → Fit r s → LastBytes s.word (take n text) → Went r s (get_or text n 0) v → Turned r text n s v
byte_turns r l text n s v h f t w =
    let b = get_or text n 0 in
    let rest : List ℕ = drop (n + 1) text in
    let left : ℕ → State → Story = λ k x. story r.kind (means r x) k rest in
    let cut : drop n text ≡ b ∷ rest = drop_more text n 0 h in
    let long : length (take n text) ≡ n = omega (arith, length-take n text) in
    let whole : take n text ++ b ∷ rest ≡ text = ap (λ (xs : List ℕ). take n text ++ xs) (sym cut) ∙ take-append-drop n text in
    let p = parts_stepped r l (take n text) rest n b s.place s.inside s.word f.0 t long in
    let words : step_words (step r s b) ≡ v.ended = ap step_words w.stepped in
    let next_is = next_state r s b v w in
    record {
      same = ap (story r.kind (means r s) n) cut
          ∙ (ap (λ (x : Answer). story_byte r.kind n x (left (suc n) (next r s (step r s b)))) w.answered ∙ rw (next_is, add-one));
      fits = subst (Fit r) next_is (fit_next r s b f);
      last = subst (λ (xs : List ℕ). LastBytes v.state.word xs) (sym (take_more text n 0 h)) (subst (λ (u : Bytes). LastBytes u (take n text ++ b ∷ [])) (ap step_word w.stepped) p.1);
      parts = good r text n v.ended (subst PlainWords words (plain_stepped r l s.place s.inside s.word b f.0))
          (subst (λ (xs : List Bytes). AllParts text (placed_at r.kind n xs)) words (subst (λ (xs : List ℕ). AllParts xs (placed_at r.kind n (step_words (step r s b)))) whole p.0));
    }

-- the words that the end gives
given_words : (x : Bool) (ps ws : List Bytes) (us ts : List Token) → cond x (gives ps us) (refused 6) ≡ gives ws ts → ps ≡ ws
given_words true ps ws us ts e = ap words_of e
given_words false ps ws us ts e = absurd (both_ways false refl (ap granted e))

-- what the end leaves
pub end_turns : (r : Rules) → Lawful r → (text : List ℕ) (at : ℕ) (s : State) (ws : List Bytes) (ts : List Token) → length text ≤ at → at ≤ length text → Fit r s → LastBytes s.word (take at text) → reply r s end ≡ gives ws ts
    → (story r.kind (means r s) at (drop at text) ≡ record { told = placed_at r.kind at ws; close = whole }) × AllGood text (placed_at r.kind at ws)
end_turns r l text at s ws ts h k f t a =
    let ps : List Bytes = pending s.inside s.word in
    let us : List Token = stand_for r s.place ps in
    let done : Bool = finished r s.place s.inside s.word in
    let long : length (take at text) ≡ at = omega (arith, length-take at text) in
    let whole_text : take at text ++ [] ≡ text = append-nil (take at text) ∙ take_all at text h in
    let parts = parts_end r l (take at text) at s.place s.inside s.word f.0 t long done us refl in (
      ap (story r.kind (means r s) at) (drop_all at text h) ∙ ap (story_end r.kind at) a,
      good r text at ws (subst PlainWords (given_words done ps ws us ts a) (plain_pending r l s.place s.inside s.word f.0))
          (subst (λ (xs : List ℕ). AllParts xs (placed_at r.kind at ws)) whole_text (subst (λ (x : Answer). AllParts (take at text ++ []) (story_end r.kind at x).told) a parts)),
    )
