-- Rules that agree with a language in every test, spelling and sentence read that language.
use Rattle.std.proofs.Common.{◌≡◌, ℕ, suc, ◌+◌, Bool, true, List, [], ◌∷◌, length, sym, refl, ap, ◌∙◌, subst, append_assoc}
use Rattle.grammar.specs.Meaning.{Word, words}
use Rattle.grammar.specs.Laws.{most_bytes}
use Rattle.rules.specs.declared.word.Kind.{Kind}
use Rattle.rules.specs.Rules.{Rules}
use Rattle.rules.specs.Machine.{grammar_of, first_place}
use Rattle.rules.specs.Language.{Written, nothing, blank_byte, word_then, WrittenBy, SpelledBy, SentenceBy, DocumentBy, blank_of, within_limits, keeps_limits, parses}
use Rattle.rules.specs.Lawful.{Lawful, AllSpelled}
use Rattle.rules.proofs.Writing.{written_alike, all_spelled}
use Rattle.reading.specs.Places.{Placed, places}
use Rattle.reading.specs.Story.{whole}
use Rattle.reading.specs.Judging.{KeptDocument, ByteOfWord}
use Rattle.reading.proofs.Complete.{words_in, words_written}
use Rattle.reading.proofs.Judges.{three_if_hopeless}
use Rattle.reading.proofs.Limits.{accepts_documents, six_if_unfinished}
use Rattle.reading.proofs.Fours.{four_if_long}
use Rattle.reading.proofs.Fives.{five_if_deep}
use Rattle.reading.proofs.Shows.{shows_laws}
use Rattle.reading.proofs.Stories.{tells}
use Rattle.languages.specs.Limits.{TooDeep}
use Rattle.languages.specs.Reads.{Reads}
use Rattle.languages.proofs.Depths.{same_limits, deep_forth, deep_back}

-- the places do not change where one way of writing is taken for another
module _ (blank₁ blank₂ : ℕ → Bool) (kind₁ kind₂ : ℕ → Kind) (delimits₁ delimits₂ : ℕ → Bool) (Spelled₁ Spelled₂ : Word → Type 0)
    (same_blank : (b : ℕ) → blank₁ b ≡ blank₂ b) (same_kind : (b : ℕ) → kind₁ b ≡ kind₂ b) (same_delimits : (b : ℕ) → delimits₁ b ≡ delimits₂ b)
    (respelled : (w : Word) → Spelled₁ w → Spelled₂ w) where
  places_alike : {ws : List Word} {bs : List ℕ} (k : ℕ) (text : Written blank₁ kind₁ delimits₁ Spelled₁ ws bs)
      → places k (written_alike blank₁ blank₂ kind₁ kind₂ delimits₁ delimits₂ Spelled₁ Spelled₂ same_blank same_kind same_delimits respelled text) ≡ places k text
  places_alike k nothing = refl
  places_alike k (blank_byte b e x) = places_alike (suc k) x
  places_alike k (word_then w rest s e f x) = ap (λ (xs : List Placed). record { place = k; word = w } ∷ xs) (places_alike (k + length w) x)

-- the language, and how the rules agree with it
module _ (r : Rules) (l : Lawful r) (blank : ℕ → Bool) (kind : ℕ → Kind) (delimits : ℕ → Bool) (Spelled : Word → Type 0) (Sentence : List Word → Type 0)
    (same_blank : (b : ℕ) → blank b ≡ blank_of r b) (same_kind : (b : ℕ) → kind b ≡ r.kind b) (same_delimits : (b : ℕ) → delimits b ≡ r.delimits b)
    (spells : (w : Word) → Spelled w → SpelledBy r w) (spelled_so : (w : Word) → SpelledBy r w → Spelled w)
    (parse : (ws : List Word) → AllSpelled r ws → Sentence ws → SentenceBy r ws) (parsed : (ws : List Word) → AllSpelled r ws → SentenceBy r ws → Sentence ws) where
  abbrev by_rules : {ws : List Word} {bs : List ℕ} → Written blank kind delimits Spelled ws bs → WrittenBy r ws bs
  by_rules text = written_alike blank (blank_of r) kind r.kind delimits r.delimits Spelled (SpelledBy r) same_blank same_kind same_delimits spells text

  by_language : {ws : List Word} {bs : List ℕ} → WrittenBy r ws bs → Written blank kind delimits Spelled ws bs
  by_language text = written_alike (blank_of r) blank r.kind kind r.delimits delimits (SpelledBy r) Spelled (λ b. sym (same_blank b)) (λ b. sym (same_kind b)) (λ b. sym (same_delimits b)) spelled_so text

  abbrev document : {ws : List Word} {bs : List ℕ} → Written blank kind delimits Spelled ws bs → Sentence ws → DocumentBy r bs
  document {ws} {bs} text sentence = record { document_words = ws; written = by_rules text; sentence = parse ws (all_spelled r (by_rules text)) sentence }

  same_places : {ws : List Word} {bs : List ℕ} (text : Written blank kind delimits Spelled ws bs) → places 0 (by_rules text) ≡ places 0 text
  same_places text = places_alike blank (blank_of r) kind r.kind delimits r.delimits Spelled (SpelledBy r) same_blank same_kind same_delimits spells 0 text

  limits : (ws : List Word) → SentenceBy r ws → within_limits r ws ≡ keeps_limits kind ws
  limits ws h = same_limits r l kind same_kind ws h

  kept : {ws : List Word} {bs : List ℕ} → Written blank kind delimits Spelled ws bs → Sentence ws → keeps_limits kind ws ≡ true → KeptDocument r ws bs
  kept {ws} {bs} text s h = let d = parse ws (all_spelled r (by_rules text)) s in record { written = by_rules text; sentence = d; limits = limits ws d ∙ h }

  -- the words of a text may stand where they stand
  text_parses : {ws : List Word} {bs : List ℕ} (text : Written blank kind delimits Spelled ws bs) → Sentence ws → parses r (first_place r) (words_in (places 0 (by_rules text))) ≡ true
  text_parses {ws} {bs} text s = ap (parses r (first_place r)) (words_written r ws bs 0 (by_rules text)) ∙ parse ws (all_spelled r (by_rules text)) s

  pub joined : Reads r blank kind delimits Spelled Sentence
  joined = record {
    sound = λ bs h. let d = (accepts_documents r l bs (words (grammar_of r) bs)).0 h refl in
        (by_language d.written, parsed (words (grammar_of r) bs) (all_spelled r d.written) d.sentence, sym (limits (words (grammar_of r) bs) d.sentence) ∙ d.limits);
    complete = λ bs ws text s h. (accepts_documents r l bs ws).1 (kept text s h);
    three = λ bs b h e more ws text s. (three_if_hopeless r l bs b h).0 e more (subst (DocumentBy r) (sym (append_assoc bs (b ∷ []) more)) (document text s));
    three_if = λ bs b h none. (three_if_hopeless r l bs b h).1 (λ more d.
        let e = append_assoc bs (b ∷ []) more in
        let text = subst (WrittenBy r d.document_words) e d.written in
        none more d.document_words (by_language text) (parsed d.document_words (all_spelled r text) d.sentence));
    four = λ bs b more ws h text s e. subst (ByteOfWord (length bs) (suc most_bytes)) (same_places text) ((four_if_long r l bs b more h (document text s)).0 e);
    four_if = λ bs b more ws h text s x. (four_if_long r l bs b more h (document text s)).1 (subst (ByteOfWord (length bs) (suc most_bytes)) (sym (same_places text)) x);
    five = λ bs b more ws h text s e. subst (TooDeep kind 0 (length bs) b) (same_places text)
        (deep_forth r l kind same_kind (first_place r) 0 (length bs) b (places 0 (by_rules text)) refl (text_parses text s) ((five_if_deep r l bs b more h (document text s)).0 e));
    five_if = λ bs b more ws h text s x. (five_if_deep r l bs b more h (document text s)).1
        (deep_back r l kind same_kind (first_place r) 0 (length bs) b (places 0 (by_rules text)) refl (text_parses text s) (subst (TooDeep kind 0 (length bs) b) (sym (same_places text)) x));
    six = λ bs h. (six_if_unfinished r bs h).0;
    six_if = λ bs h. (six_if_unfinished r bs h).1;
    told = λ ws bs text s h.
        let a = (accepts_documents r l bs ws).1 (kept text s h) in
        (tells r l).document ws bs (by_rules text) a.0 a.1 ∙ ap (λ (xs : List Placed). record { told = xs; close = whole }) (same_places text);
    laws = shows_laws r l;
  }
