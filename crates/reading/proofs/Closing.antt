-- From every state that the machine reaches, a document can be finished.
use Rattle.std.proofs.Common.{◌≡◌, ℕ, Bool, true, false, List, [], ◌∷◌, ◌++◌, Some, None, Option, refl, ap}
use Rattle.grammar.specs.Meaning.{Word}
use Rattle.rules.specs.declared.word.Kind.{Kind}
use Rattle.rules.specs.declared.word.Inside.{Inside}
use Rattle.rules.specs.Rules.{Rules, Place, behind, loose}
use Rattle.rules.specs.Language.{WrittenBy, blank_byte, word_then, nothing, Delimited, Follows, FollowsKind, is_blank}
use Rattle.rules.specs.Lawful.{Lawful, AllSpelled}
use Rattle.reading.specs.Accepts.{at, accepts}
use Rattle.reading.proofs.Complete.{complete}
use Rattle.reading.proofs.Fit.{FitAt, reached_behind}

-- words, each behind a blank
abbrev spread : List Word → List ℕ
spread [] = []
spread (w ∷ ws) = 0x20 ∷ (w ++ spread ws)

spread_delimits : (r : Rules) → Lawful r → (ws : List Word) → Delimited r.delimits (spread ws)
spread_delimits r l [] = tt
spread_delimits r l (w ∷ ws) = l.blank_delimits

pub follows_delimited : (d : ℕ → Bool) (x : Bool) (bs : List ℕ) → Delimited d bs → FollowsKind d x bs
follows_delimited d true bs h = h
follows_delimited d false bs h = tt

pub word_follows : (k : ℕ → Kind) (d : ℕ → Bool) (w : Word) (bs : List ℕ) → Delimited d bs → Follows k d w bs
word_follows k d [] bs h = tt
word_follows k d (b ∷ w) bs h = follows_delimited d (loose (k b)) bs h

spread_written : (r : Rules) → Lawful r → (ws : List Word) → AllSpelled r ws → WrittenBy r ws (spread ws)
spread_written r l [] good = nothing
spread_written r l (w ∷ ws) good =
    blank_byte 0x20 (ap is_blank l.blank_is_blank)
    (word_then w (spread ws) good.0 refl (word_follows r.kind r.delimits w (spread ws) (spread_delimits r l ws)) (spread_written r l ws good.1))

pub closing : (r : Rules) → Lawful r → (p : Place) (io : Option Inside) (w : Word) → FitAt r p io w → (bs : List ℕ) × (accepts r (at p io w) bs ≡ true)
closing r l p None w f =
    let c = l.place_closing p f.1 in
    (spread c.closing_words, (complete r l (spread c.closing_words) p None w c.closing_words f.0 (spread_written r l c.closing_words c.good, c.fits)).0)
closing r l p (Some i) [] f = absurd f.0
closing r l p (Some i) (b ∷ v) f =
    let w : Word = b ∷ v in
    let t = l.word_closing i w f.0.0 in
    let c = l.place_closing (behind r p w) (reached_behind r p i b v f.0 f.1) in
    let ws : List Word = c.closing_words in (
      t.0 ++ spread ws,
      (complete r l (t.0 ++ spread ws) p (Some i) w ((w ++ t.0) ∷ ws) f.0 (record {
        tail = t.0;
        rest = spread ws;
        more = ws;
        words_are = refl;
        bytes_are = refl;
        spelt = t.1;
        follows = word_follows r.kind r.delimits (w ++ t.0) (spread ws) (spread_delimits r l ws);
        written = spread_written r l ws c.good;
        parse = c.fits;
      })).0,
    )
