-- What a window means.
use Rattle.std.specs.Prelude.{◌≡◌, ℕ, min, List, length, take, drop, nat_le}
use Rattle.sink.specs.declared.window.Window.{Window}
use Rattle.sink.specs.Begins.{Begins}
use Rattle.sink.specs.Rule.{Rule}

-- How many bytes of a buffer are used at most.
abbrev pub room : List ℕ → ℕ
room buffer = min (length buffer) 32768

-- The text in front of a buffer.
abbrev pub text_in : List ℕ → ℕ → List ℕ
text_in buffer len = take len buffer

-- The text that a window holds.
abbrev pub text_of : Window → List ℕ
text_of w = text_in w.buffer.now w.len

-- The rule for a buffer: the texts that fit are admitted; another is refused under number 10 and kind 1.
abbrev pub rule_in : List ℕ → Rule
rule_in buffer = record { admits = λ xs. nat_le (length xs) (room buffer); reason = λ xs. record { number = 10; kind = 1 } }

-- The rule of a window.
abbrev pub rule_of : Window → Rule
rule_of w = rule_in w.buffer.now

-- What becomes of a window: the same loan, as long as it was; the text begins with the text before, and the bytes past it are as they were.
pub record Later (w v : Window) : Type 0 where
  pub loan : v.buffer.ghost_name ≡ w.buffer.ghost_name
  pub size : length v.buffer.now ≡ length w.buffer.now
  pub front : Begins (text_of w) (text_of v)
  pub past : drop (length (text_of v)) v.buffer.now ≡ drop (length (text_of v)) w.buffer.now
