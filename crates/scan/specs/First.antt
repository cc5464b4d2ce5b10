-- The record of the first of some tokens.
use Rattle.std.specs.Prelude.{◌≡◌, ℕ, List, [], ◌∷◌, Some, None, Option}
use Rattle.layout.specs.Tokens.{Token}
use Rattle.layout.specs.declared.token.Token.{Token as Held}
use Rattle.layout.specs.declared.token.Token.TheVariants.{Text as TextHeld, Break as BreakHeld, Opening as OpeningHeld, Ending as EndingHeld}
use Rattle.stream.specs.declared.record.Slot.{Slot}
use Rattle.stream.specs.Recorded.{slotted, extent}

-- none where there is no token, else its shape and what is known of its size
abbrev pub First : List Token → Option Slot → Type 0
First [] r = r ≡ None
First (t ∷ ts) r = r ≡ Some (slotted t (extent t ts))

-- how many places, text bytes and columns go with a record
abbrev pub places_of : Option ℕ → ℕ
places_of (Some n) = 0
places_of None = 1

abbrev pub bytes_of : Held ℕ → ℕ
bytes_of (TextHeld n) = n
bytes_of (BreakHeld b) = 0
bytes_of (OpeningHeld o) = 0
bytes_of EndingHeld = 0

abbrev pub columns_of : Held ℕ → ℕ
columns_of (TextHeld n) = n
columns_of (BreakHeld b) = b.blanks
columns_of (OpeningHeld o) = 0
columns_of EndingHeld = 0
