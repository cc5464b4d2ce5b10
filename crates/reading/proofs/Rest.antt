-- What may come from a state on: the rest of the word under way, and then words that lead to the end of a document.
use Rattle.std.proofs.Common.{◌≡◌, ℕ, suc, Bool, true, false, ◌&&◌, List, [], ◌∷◌, ◌++◌, Some, None, Option, refl}
use Rattle.std.proofs.lemmas.Bool.{false≢true, true≢false}
use Rattle.grammar.specs.Meaning.{Word}
use Rattle.rules.specs.declared.word.Inside.{Inside}
use Rattle.rules.specs.Rules.{Rules, Place, behind}
use Rattle.rules.specs.Machine.{State, Step, dead, on, next, ending}
use Rattle.rules.specs.Language.{WrittenBy, Follows, FollowsKind, spelled_on, parses}
pub use Rattle.reading.specs.Fit.{Live, Sane}
use Rattle.reading.specs.Places.{Placed, place_of, placed_at}
use Rattle.reading.specs.Accepts.{at, alive, step_words, accepts, words_from, placed_from}

-- the bytes bs finish the word w under way, and then write words that lead to the end; together the words ws
pub record Going (r : Rules) (p : Place) (i : Inside) (w : Word) (ws : List Word) (bs : List ℕ) : Type 0 where
  pub tail : List ℕ
  pub rest : List ℕ
  pub more : List Word
  pub words_are : ws ≡ (w ++ tail) ∷ more
  pub bytes_are : bs ≡ tail ++ rest
  pub spelt : spelled_on r i w tail ≡ true
  pub follows : Follows r.kind r.delimits (w ++ tail) rest
  pub written : WrittenBy r more rest
  pub parse : parses r (behind r p w) more ≡ true

abbrev pub Rest : Rules → Place → Option Inside → Word → List Word → List ℕ → Type 0
Rest r p None w ws bs = WrittenBy r ws bs × (parses r p ws ≡ true)
Rest r p (Some i) w ws bs = Going r p i w ws bs

-- the same behind a step
abbrev pub accepts_on : Rules → State → Step → List ℕ → Bool
accepts_on r s st bs = alive st && accepts r (next r s st) bs

abbrev pub words_on : Rules → State → Step → List ℕ → List Word
words_on r s st bs = step_words st ++ words_from r (next r s st) bs

abbrev pub placed_on : Rules → State → Step → ℕ → List ℕ → List Placed
placed_on r s st k bs = placed_at r.kind k (step_words st) ++ placed_from r (next r s st) (suc k) bs

-- a byte behind a whole word does what it does between words, at the place behind that word
pub accepts_ending : (r : Rules) (p : Place) (io : Option Inside) (w v : Word) (st : Step) (bs : List ℕ) → accepts_on r (at p io v) (ending w st) bs ≡ accepts_on r (at (behind r p w) None []) st bs
accepts_ending r p io w v dead bs = refl
accepts_ending r p io w v (on j u ws) bs = refl

pub words_ending : (r : Rules) (p : Place) (io : Option Inside) (w v : Word) (st : Step) (bs : List ℕ) → alive st ≡ true → words_on r (at p io v) (ending w st) bs ≡ w ∷ words_on r (at (behind r p w) None []) st bs
words_ending r p io w v dead bs h = absurd (false≢true h)
words_ending r p io w v (on j u ws) bs h = refl

pub placed_ending : (r : Rules) (p : Place) (io : Option Inside) (w v : Word) (st : Step) (k : ℕ) (bs : List ℕ) → alive st ≡ true → placed_on r (at p io v) (ending w st) k bs ≡ record { place = place_of r.kind k w; word = w } ∷ placed_on r (at (behind r p w) None []) st k bs
placed_ending r p io w v dead k bs h = absurd (false≢true h)
placed_ending r p io w v (on j u ws) k bs h = refl

-- a word that is not loose may be followed by anything
pub follows_strict : (d : ℕ → Bool) (x : Bool) (bs : List ℕ) → x ≡ false → FollowsKind d x bs
follows_strict d true bs h = absurd (true≢false h)
follows_strict d false bs h = tt

-- lists that are equal have equal parts
pub same_head : (b c : ℕ) (bs cs : List ℕ) → b ∷ bs ≡ c ∷ cs → b ≡ c
same_head b c bs cs e = cc

pub same_tail : (b c : ℕ) (bs cs : List ℕ) → b ∷ bs ≡ c ∷ cs → bs ≡ cs
same_tail b c bs cs e = cc

pub not_empty : (b : ℕ) (bs : List ℕ) → [] ≡ b ∷ bs → ⊥
not_empty b bs e = cc
