-- What a byte is behind a backslash and u, by the bytes that follow these two.
use Rattle.std.proofs.Common.{◌≡◌, ℕ, ◌-◌, ◌≤◌, List, [], ◌∷◌, length, get_or, take, drop, ap, arith}
use Rattle.std.proofs.lemmas.List.{take_rest}
use Rattle.json_language.specs.Rules.{unicode_turn, string_turn}

pub behind_u : (e : List ℕ) (b : ℕ) → 2 ≤ length e → get_or e 0 0 ≡ 0x5C → get_or e 1 0 ≡ 0x75 → unicode_turn (take (length e - 2) (drop 2 e)) b ≡ string_turn e b
behind_u [] b two first second = absurd (omega arith)
behind_u (x ∷ []) b two first second = absurd (omega arith)
behind_u (x ∷ (y ∷ hs)) b two first second = rw (first, second) (ap (λ (ds : List ℕ). unicode_turn ds b) (take_rest (x ∷ (y ∷ hs)) 2))
