-- The number, the layer and the token of each fault of a direct job.
use Rattle.std.specs.Prelude.{ℕ}
use Rattle.printer.specs.Faults as printing
use Rattle.direct.specs.declared.fault.DirectFault.{DirectFault}
use Rattle.direct.specs.declared.fault.DirectFault.TheVariants.{Tokens, Range, Receipt, Blocks, Unended, Printing}

-- 2: 1,000,000 tokens were given; 8: out of range; 9: not the innermost block's receipt; 5: a 65th open block; 6: a block is open at the drain; else the printer's
abbrev pub number_of : DirectFault → ℕ
number_of (Tokens token) = 2
number_of (Range token) = 8
number_of (Receipt token) = 9
number_of (Blocks token) = 5
number_of (Unended token) = 6
number_of (Printing fault) = printing.number_of fault

-- direct calls are of layer 2, as the printer
abbrev pub layer_of : DirectFault → ℕ
layer_of (Tokens token) = 2
layer_of (Range token) = 2
layer_of (Receipt token) = 2
layer_of (Blocks token) = 2
layer_of (Unended token) = 2
layer_of (Printing fault) = printing.layer_of fault

-- the number of the token refused, or not wholly written; at the drain the count of tokens
abbrev pub token_of : DirectFault → ℕ
token_of (Tokens token) = token
token_of (Range token) = token
token_of (Receipt token) = token
token_of (Blocks token) = token
token_of (Unended token) = token
token_of (Printing fault) = printing.token_of fault
