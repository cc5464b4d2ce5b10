-- A window keeps the laws of sinks.
use Rattle.std.specs.Prelude.{◌≡◌, ℕ, ◌+◌, ◌-◌, ◌≤◌, min, List, ◌++◌, length, drop, nat_le, refl}
use Rattle.std.proofs.Common.{sym, ap, ◌∙◌, arith}
use Rattle.std.proofs.lemmas.List.{length-append, length-take, drop-drop}
use Rattle.std.proofs.lemmas.Bool.{leb-true, le-leb}
use Rattle.sink.specs.declared.window.Window.{Window}
use Rattle.sink.specs.Begins.{begins_goes, begins_self, begins_short}
use Rattle.sink.specs.Rule.{Laws, Rule}
use Rattle.sink.specs.WindowText.{room, text_of, rule_in, rule_of, Later}

-- a rest of a rest that stays
rests : {X : Type 0} (m n : ℕ) (xs ys : List X) → m ≤ n → drop m ys ≡ drop m xs → drop n ys ≡ drop n xs
rests m n xs ys le e =
    let on : m + (n - m) ≡ n = omega arith in
    rw (← on) (sym (drop-drop (n - m) m ys) ∙ ap (drop (n - m)) e ∙ drop-drop (n - m) m xs)

-- what becomes of what becomes of a window
goes : (s t u : Window) → Later s t → Later t u → Later s u
goes s t u a b =
    record {
      loan = b.loan ∙ a.loan;
      size = b.size ∙ a.size;
      front = begins_goes (text_of s) (text_of t) (text_of u) a.front b.front;
      past = b.past ∙ rests (length (text_of t)) (length (text_of u)) s.buffer.now t.buffer.now (begins_short (text_of t) (text_of u) b.front) a.past;
    }

-- the rule depends on the length alone
pub same_rule : (xs ys : List ℕ) → length ys ≡ length xs → rule_in ys ≡ rule_in xs
same_rule xs ys e =
    let F : ℕ → Rule = λ n. record { admits = λ zs. nat_le (length zs) (min n 32768); reason = λ zs. record { number = 10; kind = 1 } } in
    ap F e

-- So what becomes of a window keeps its rule.
pub window_keeps : (s t : Window) → Later s t → rule_of t ≡ rule_of s
window_keeps s t l = same_rule s.buffer.now t.buffer.now l.size

-- The laws of sinks, for windows.
pub window_laws : Laws text_of rule_of Later
window_laws =
    record {
      beginnings = λ w xs ys h. le-leb _ _ (omega (arith, length-append xs ys, leb-true (length (xs ++ ys)) (room w.buffer.now) h));
      held = λ w. le-leb _ _ (omega (arith, length-take w.len w.buffer.now, w.within));
      stays = λ w. record { loan = refl; size = refl; front = begins_self (text_of w); past = refl };
      goes = goes;
    }
