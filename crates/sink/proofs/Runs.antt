-- One run behind another: what two writes leave is what one write of both runs leaves.
use Rattle.std.proofs.Common.{◌≡◌, ℕ, ◌+◌, ◌<◌, true, List, [], ◌∷◌, ◌++◌, length, get_or, take, drop, Result, Ok, Err, sym, refl, ap, ◌∙◌, arith, MatchResult}
use lib.Seq.{take-append-add}
use Rattle.std.proofs.lemmas.List.{append-nil, append_assoc, length-append, take-append-drop, take-append-le, take_more}
use Rattle.std.proofs.lemmas.Result.{MatchResult-weaker}
use Rattle.sink.specs.declared.fault.SinkFault.{SinkFault}
use Rattle.sink.specs.Fault.{Cut, Leaves, Answers}
use Rattle.sink.specs.Rule.{Beginnings, Laws, Rule, kept}
use Rattle.sink.proofs.Kept.{kept_all, kept_behind, kept_front, kept_over}

-- The first run is cut: so are both, there.
pub cut_front : (rule : Rule) → Beginnings rule.admits → (before xs ys : List ℕ) (older : ℕ) (f : SinkFault) → rule.admits before ≡ true → Cut rule before xs older f → Cut rule before (xs ++ ys) older f
cut_front rule beg before xs ys older f h cut =
    let k = length (kept rule.admits before xs) in
    let less : k < length xs = cut.0 in
    let same = kept_front rule.admits before xs ys h (kept_over rule.admits beg before xs less) in
    let first : take (k + 1) (xs ++ ys) ≡ take (k + 1) xs = take-append-le (k + 1) xs ys (omega arith) in
    (rw same (omega (arith, length-append xs ys)), cut.1 ∙ rw (same, first))

-- The first run is cut: what stands is what both leave.
pub stands_front : (rule : Rule) → Beginnings rule.admits → (before xs ys t : List ℕ) (older : ℕ) (f : SinkFault) → rule.admits before ≡ true → Cut rule before xs older f → t ≡ before ++ kept rule.admits before xs → t ≡ before ++ kept rule.admits before (xs ++ ys)
stands_front rule beg before xs ys t older f h cut e =
    e ∙ ap (λ (zs : List ℕ). before ++ zs) (sym (kept_front rule.admits before xs ys h (kept_over rule.admits beg before xs cut.0)))

-- The first run stands whole, and the second is cut behind it: so are both, there.
pub cut_behind : (rule : Rule) → Beginnings rule.admits → (before xs ys : List ℕ) (older : ℕ) (f : SinkFault) → rule.admits (before ++ xs) ≡ true → Cut rule (before ++ xs) ys older f → Cut rule before (xs ++ ys) older f
cut_behind rule beg before xs ys older f h cut =
    let rest = kept rule.admits (before ++ xs) ys in
    let same : kept rule.admits before (xs ++ ys) ≡ xs ++ rest = kept_behind rule.admits beg before xs ys h in
    let less : length rest < length ys = cut.0 in
    let more : length (xs ++ rest) + 1 ≡ length xs + (length rest + 1) = omega (arith, length-append xs rest) in (
      rw same (omega (arith, length-append xs ys, length-append xs rest)),
      cut.1 ∙ rw (same, more, take-append-add xs ys (length rest + 1), ← append_assoc before xs (take (length rest + 1) ys), ← append_assoc before xs rest),
    )

-- The first run stands whole as t, under the same rule: what the second write leaves and answers is what one write of both does.
module _ (rule now_rule : Rule) (beg : Beginnings rule.admits) (before xs ys t : List ℕ) (same : now_rule ≡ rule) (fits : rule.admits (before ++ xs) ≡ true) (e : t ≡ before ++ kept rule.admits before xs) where
  whole : t ≡ before ++ xs
  whole = e ∙ ap (λ (zs : List ℕ). before ++ zs) (kept_all rule.admits beg before xs fits)

  pub stands_behind : (u : List ℕ) → u ≡ t ++ kept now_rule.admits t ys → u ≡ before ++ kept rule.admits before (xs ++ ys)
  stands_behind u d = d ∙ rw (same, whole, append_assoc, kept_behind rule.admits beg before xs ys fits)

  pub cases_behind : (r : Result (Unit {0}) SinkFault) (older : ℕ) → MatchResult r (λ _. now_rule.admits (t ++ ys) ≡ true) (λ f. Cut now_rule t ys older f) → MatchResult r (λ _. rule.admits (before ++ (xs ++ ys)) ≡ true) (λ f. Cut rule before (xs ++ ys) older f)
  cases_behind r older =
      rw (same, whole) (λ h. MatchResult-weaker r h (λ _ ok. rw (← append_assoc before xs ys) ok) (λ f cut. cut_behind rule beg before xs ys older f fits cut))

-- Runs written into any sink, one behind another.
module _ {S : Type 0} (text_of : S → List ℕ) (rule_of : S → Rule) (later : S → S → Type 0) (laws : Laws text_of rule_of later) where
  -- a run was written into s, which is t now, with the answer r
  abbrev pub Ran : S → List ℕ → ℕ → S → Result (Unit {0}) SinkFault → Type 0
  Ran s bytes older t r = record { rule : rule_of t ≡ rule_of s; later : later s t; text : Leaves text_of rule_of s bytes t; cases : Answers text_of rule_of s bytes older r }

  pub ran_none : (s : S) (older : ℕ) → Ran s [] older s (Ok tt)
  ran_none s older =
      record {
        rule = refl;
        later = laws.stays s;
        text = sym (append-nil (text_of s));
        cases = rw append-nil (laws.held s);
      }

  -- the first was cut
  pub ran_front : (s t : S) (xs ys : List ℕ) (older : ℕ) (f : SinkFault) → Ran s xs older t (Err f) → Ran s (xs ++ ys) older t (Err f)
  ran_front s t xs ys older f ran =
      record {
        rule = ran.rule;
        later = ran.later;
        text = stands_front (rule_of s) (laws.beginnings s) (text_of s) xs ys (text_of t) older f (laws.held s) ran.cases ran.text;
        cases = cut_front (rule_of s) (laws.beginnings s) (text_of s) xs ys older f (laws.held s) ran.cases;
      }

  -- the first was written whole, and then the second
  pub ran_both : (s t u : S) (xs ys : List ℕ) (older : ℕ) (r : Result (Unit {0}) SinkFault) → Ran s xs older t (Ok tt) → Ran t ys older u r → Ran s (xs ++ ys) older u r
  ran_both s t u xs ys older r first rest =
      record {
        rule = rest.rule ∙ first.rule;
        later = laws.goes s t u first.later rest.later;
        text = stands_behind (rule_of s) (rule_of t) (laws.beginnings s) (text_of s) xs ys (text_of t) first.rule first.cases first.text (text_of u) rest.text;
        cases = cases_behind (rule_of s) (rule_of t) (laws.beginnings s) (text_of s) xs ys (text_of t) first.rule first.cases first.text r older rest.cases;
      }

  -- a run of bytes of which i were written, and then one more
  pub ran_byte : (s t u : S) (bytes : List ℕ) (i older : ℕ) (r : Result (Unit {0}) SinkFault) → i < length bytes → Ran s (take i bytes) older t (Ok tt) → Ran t (get_or bytes i 0 ∷ []) older u r → Ran s (take (i + 1) bytes) older u r
  ran_byte s t u bytes i older r less run byte = rw (take_more bytes i 0 less) (ran_both s t u (take i bytes) (get_or bytes i 0 ∷ []) older r run byte)

  -- it is cut where a beginning of it is
  pub ran_cut : (s t : S) (bytes : List ℕ) (i older : ℕ) (f : SinkFault) → Ran s (take i bytes) older t (Err f) → Ran s bytes older t (Err f)
  ran_cut s t bytes i older f ran = rw take-append-drop at (ran_front s t (take i bytes) (drop i bytes) older f ran)
