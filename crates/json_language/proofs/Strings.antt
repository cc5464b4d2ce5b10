-- Strings: what may follow the bytes of a string is what the rules let follow them.
use Rattle.std.proofs.Common.{◌≡◌, ℕ, ◌-◌, true, false, cond, ◌||◌, eqb, leb, List, [], ◌∷◌, ◌++◌, length, Decides, sym, refl, ◌∙◌, subst, append_assoc, arith}
use Rattle.std.proofs.lemmas.List.{length-append, drop_at, append-nil}
use Rattle.std.proofs.lemmas.Bool.{both_ways, false≢true, true≢false, eqb-true, cond_both}
use Rattle.std.proofs.lemmas.Bool.Decides.{nat_tests}
use Rattle.grammar.specs.Meaning.{Word}
use Rattle.rules.specs.declared.word.Inside.TheVariants.{Quoted}
use Rattle.rules.specs.declared.word.Turn.{Turn}
use Rattle.rules.specs.declared.word.Turn.TheVariants.{Stays, Closes, Never}
use Rattle.rules.specs.Language.{none_left, spelled_turn, spelled_on}
use Rattle.json_language.specs.declared.class.Class.TheVariants.{Control, Blank as BlankByte, Quote, Backslash}
use Rattle.json_language.specs.Classes.{class_of, is}
use Rattle.json_language.specs.Words.{Lang, one, unescaped, escapable, hexadecimal, StringRest, quotation_mark, plain, escape, unicode}
use Rattle.rules.specs.Escapes.{escape_of}
use Rattle.json_language.specs.Rules.{plain_turn, escape_turn, string_turn, json_rules}
use Rattle.json_language.proofs.Bytes.{quote_class, backslash_class, low_class, plain_class}

-- an escape under way
pub data Escape : List ℕ → Type 0 where
  no_escape : Escape []
  backslash : Escape (0x5C ∷ [])
  u : Escape (0x5C ∷ (0x75 ∷ []))
  u_1 : (a : ℕ) → hexadecimal a ≡ true → Escape (0x5C ∷ (0x75 ∷ (a ∷ [])))
  u_2 : (a b : ℕ) → hexadecimal a ≡ true → hexadecimal b ≡ true → Escape (0x5C ∷ (0x75 ∷ (a ∷ (b ∷ []))))
  u_3 : (a b c : ℕ) → hexadecimal a ≡ true → hexadecimal b ≡ true → hexadecimal c ≡ true → Escape (0x5C ∷ (0x75 ∷ (a ∷ (b ∷ (c ∷ [])))))

-- it stands at the word's end
pub escape_of_end : (w e : List ℕ) → escape_of (length e) (w ++ e) ≡ e
escape_of_end w e = drop_at w e (length (w ++ e) - length e) (omega (arith, length-append w e))

-- behind a backslash and u come four hexadecimal digits, and then the rest
abbrev Four : Lang
Four = one hexadecimal (one hexadecimal (one hexadecimal (one hexadecimal StringRest)))

four : (bs : List ℕ) → StringRest (0x5C ∷ (0x75 ∷ bs)) → Four bs
four bs (plain b h r) = absurd (false≢true h)
four bs (escape b h r) = absurd (false≢true h)
four bs (unicode a b c d ha hb hc hd r) = (ha, (hb, (hc, (hd, r))))

-- no string ends in an escape under way
unfinished : (e : List ℕ) → Escape e → StringRest (e ++ []) → ⊥
unfinished e no_escape r = elim r [ ]
unfinished e backslash (plain b h r) = elim r [ ]
unfinished e u r = four [] r
unfinished e (u_1 a ha) r = (four (a ∷ []) r).1
unfinished e (u_2 a b ha hb) r = (four (a ∷ (b ∷ [])) r).1.1
unfinished e (u_3 a b c ha hb hc) r = (four (a ∷ (b ∷ (c ∷ []))) r).1.1.1

-- What a byte behind this escape is, and what may come then: it ends the string; an escape is under way with it; none is
-- under way behind it; or no string goes on with it.
pub data Turned (e : List ℕ) (b : ℕ) : Turn → Type 0 where
  closed : ((bs : List ℕ) → Decides (none_left bs) (StringRest (e ++ b ∷ bs))) → Turned e b Closes
  longer : Escape (e ++ b ∷ []) → Turned e b (Stays (Quoted (length (e ++ b ∷ []))))
  done : ((bs : List ℕ) → StringRest bs → StringRest (e ++ b ∷ bs)) → ((bs : List ℕ) → StringRest (e ++ b ∷ bs) → StringRest bs) → Turned e b (Stays (Quoted 0))
  never : ((bs : List ℕ) → StringRest (e ++ b ∷ bs) → ⊥) → Turned e b Never

ends_string : (bs : List ℕ) → Decides (none_left bs) (StringRest (0x22 ∷ bs))
ends_string [] = (λ _. quotation_mark, λ _. refl)
ends_string (b ∷ bs) = (λ h. absurd (false≢true h), after)
  where
    after : StringRest (0x22 ∷ (b ∷ bs)) → false ≡ true
    after (plain c h r) = h

not_low : (b : ℕ) (bs : List ℕ) → leb 0x20 b ≡ false → StringRest (b ∷ bs) → ⊥
not_low b bs h quotation_mark = true≢false h
not_low b bs h (plain c q r) = grind (arith, nat_tests)
not_low b bs h (escape c q r) = true≢false h
not_low b bs h (unicode x y z v hx hy hz hv r) = true≢false h

after_plain : (b : ℕ) (bs : List ℕ) → unescaped b ≡ true → StringRest (b ∷ bs) → StringRest bs
after_plain b bs h quotation_mark = absurd (false≢true h)
after_plain b bs h (plain c q r) = r
after_plain b bs h (escape c q r) = absurd (false≢true h)
after_plain b bs h (unicode x y z v hx hy hz hv r) = absurd (false≢true h)

escapes : (b : ℕ) (bs : List ℕ) → eqb b 0x75 ≡ false → StringRest (0x5C ∷ (b ∷ bs)) → (escapable b ≡ true) × StringRest bs
escapes b bs h (plain c q r) = absurd (false≢true q)
escapes b bs h (escape c q r) = (q, r)
escapes b bs h (unicode x y z v hx hy hz hv r) = absurd (true≢false h)

by_hexadecimal : (e : List ℕ) (b : ℕ) (t : Turn) → (hexadecimal b ≡ true → Turned e b t) → ((bs : List ℕ) → StringRest (e ++ b ∷ bs) → hexadecimal b ≡ true) → Turned e b (cond (hexadecimal b) t Never)
by_hexadecimal e b t goes only = cond_both (hexadecimal b) t Never (Turned e b) goes (λ h. never (λ bs r. both_ways (hexadecimal b) h (only bs r)))

plain_turned : (b : ℕ) → Turned [] b (plain_turn (class_of b))
plain_turned b =
    cond_both (is Quote (class_of b)) Closes _ (Turned [] b)
    (λ h. subst (λ x. Turned [] x Closes) (sym (eqb-true b 0x22 (sym (quote_class b) ∙ h))) (closed ends_string))
    (λ nq. cond_both (is Backslash (class_of b)) (Stays (Quoted 1)) _ (Turned [] b)
    (λ h. subst (λ x. Turned [] x (Stays (Quoted 1))) (sym (eqb-true b 0x5C (sym (backslash_class b) ∙ h))) (longer backslash))
    (λ nb. cond_both (is Control (class_of b) || is BlankByte (class_of b)) Never (Stays (Quoted 0)) (Turned [] b)
    (λ h. never (λ bs. not_low b bs (low_class b h)))
    (λ nl. let h = plain_class b nq nb nl in done (λ bs r. plain b h r) (λ bs. after_plain b bs h))))

escape_turned : (b : ℕ) → Turned (0x5C ∷ []) b (escape_turn b)
escape_turned b =
    cond_both (eqb b 0x75) (Stays (Quoted 2)) _ (Turned (0x5C ∷ []) b)
    (λ h. subst (λ x. Turned (0x5C ∷ []) x (Stays (Quoted 2))) (sym (eqb-true b 0x75 h)) (longer u))
    (λ n. cond_both (escapable b) (Stays (Quoted 0)) Never (Turned (0x5C ∷ []) b)
    (λ h. done (λ bs r. escape b h r) (λ bs r. (escapes b bs n r).1))
    (λ h. never (λ bs r. both_ways (escapable b) h (escapes b bs n r).0)))

pub turned : (e : List ℕ) (b : ℕ) → Escape e → Turned e b (string_turn e b)
turned e b no_escape = plain_turned b
turned e b backslash = escape_turned b
turned e b u = by_hexadecimal e b (Stays (Quoted 3)) (λ h. longer (u_1 b h)) (λ bs r. (four (b ∷ bs) r).0)
turned e b (u_1 x hx) = by_hexadecimal e b (Stays (Quoted 4)) (λ h. longer (u_2 x b hx h)) (λ bs r. (four (x ∷ (b ∷ bs)) r).1.0)
turned e b (u_2 x y hx hy) = by_hexadecimal e b (Stays (Quoted 5)) (λ h. longer (u_3 x y b hx hy h)) (λ bs r. (four (x ∷ (y ∷ (b ∷ bs))) r).1.1.0)
turned e b (u_3 x y z hx hy hz) =
    by_hexadecimal e b (Stays (Quoted 0)) (λ h. done (λ bs r. unicode x y z b hx hy hz h r) (λ bs r. (four (x ∷ (y ∷ (z ∷ (b ∷ bs)))) r).1.1.1.1)) (λ bs r. (four (x ∷ (y ∷ (z ∷ (b ∷ bs)))) r).1.1.1.0)

-- behind the bytes w and this escape, the rules let the string go on with these bytes exactly where they may come
abbrev Spells : List ℕ → Word → List ℕ → Type 0
Spells bs w e = Decides (spelled_on json_rules (Quoted (length e)) (w ++ e) bs) (StringRest (e ++ bs))

spells_turn : (bs : List ℕ) (w e : List ℕ) (b : ℕ) → ((v f : List ℕ) → Escape f → Spells bs v f) → (t : Turn) → Turned e b t
    → Decides (spelled_turn (λ j. spelled_on json_rules j ((w ++ e) ++ b ∷ []) bs) (none_left bs) t) (StringRest (e ++ b ∷ bs))
spells_turn bs w e b on t (closed d) = d bs
spells_turn bs w e b on t (longer x) = rw (append_assoc w e (b ∷ []), ← append_assoc e (b ∷ []) bs) (on w (e ++ b ∷ []) x)
spells_turn bs w e b on t (done make unmake) =
    let d = rw (append-nil ((w ++ e) ++ b ∷ [])) at (on ((w ++ e) ++ b ∷ []) [] no_escape) in
    (λ h. make bs (d.0 h), λ r. d.1 (unmake bs r))
spells_turn bs w e b on t (never n) = (λ h. absurd (false≢true h), λ r. absurd (n bs r))

pub string_spells : (bs : List ℕ) (w e : List ℕ) → Escape e → Spells bs w e
string_spells [] w e x = (λ h. absurd (false≢true h), λ r. absurd (unfinished e x r))
string_spells (b ∷ bs) w e x = rw (escape_of_end w e) (spells_turn bs w e b (string_spells bs) (string_turn e b) (turned e b x))
