-- Which tokens the queues hold.
use Rattle.std.specs.Prelude.{◌≡◌, ℕ, ◌+◌, ◌<◌, ◌≤◌, List, length, take}
use Rattle.layout.specs.Tokens.{Token, widths, nest}
use Rattle.stream.specs.Recorded.{recorded, texts, waits, wrapped}
use Rattle.stream.specs.Settling.{keeps, mixed}
use Rattle.queue.specs.Items.{items}
use Rattle.scan.specs.declared.scan.Scan.{Scan}

-- the running counts are those of the tokens h, of which the first has number k, b columns and d open blocks before it
pub record Counts (k b d : ℕ) (h : List Token) (s : Scan) : Type 0 where
  pub serial : s.serial ≡ wrapped k
  pub gone : s.base ≡ wrapped b
  pub total : s.total ≡ wrapped (b + widths h)
  pub texts : items s.texts ≡ texts h
  pub depth : s.depth ≡ nest d h
  pub room : widths h < 65536

-- the queues hold the tokens h
pub record Holds (k d : ℕ) (h : List Token) (s : Scan) : Type 0 where
  pub base : ℕ
  pub counts : Counts k base d h s
  pub slots : items s.slots ≡ recorded h
  pub places : items s.places ≡ waits k base d h

-- the same while a Break settles sizes, from the last waiting token on: c are left waiting
pub record Settling (k b d : ℕ) (h : List Token) (c : ℕ) (s : Scan) : Type 0 where
  pub counts : Counts k b d h s
  pub slots : items s.slots ≡ mixed c h
  pub places : items s.places ≡ take c (waits k b d h)
  pub most : c ≤ length (waits k b d h)
  pub least : keeps h ≤ c
