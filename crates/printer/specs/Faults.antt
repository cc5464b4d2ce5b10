-- The faults of a print.
use Rattle.std.specs.Prelude.{ℕ, Ok, Err, Result}
use Rattle.sink.specs.declared.fault.SinkFault.{SinkFault}
use Rattle.printer.specs.declared.fault.PrinterFault.{PrinterFault}
use Rattle.printer.specs.declared.fault.PrinterFault.TheVariants.{Full, Sink}

-- a sink's answer, with the number of the token that was being written
abbrev pub numbered : ℕ → Result (Unit {0}) SinkFault → Result (Unit {0}) PrinterFault
numbered token (Ok u) = Ok u
numbered token (Err f) = Err (Sink f token)

-- the number of each fault: 7 where 384 tokens are held back already, else the sink's
abbrev pub number_of : PrinterFault → ℕ
number_of (Full token) = 7
number_of (Sink fault token) = fault.number

-- the layer in which it arose: the printer's is 2, the sink's is 3
abbrev pub layer_of : PrinterFault → ℕ
layer_of (Full token) = 2
layer_of (Sink fault token) = 3

-- the number of the token refused, or not wholly written
abbrev pub token_of : PrinterFault → ℕ
token_of (Full token) = token
token_of (Sink fault token) = token
