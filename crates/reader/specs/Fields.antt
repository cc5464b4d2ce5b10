-- What a machine holds, by its fields: the innermost bracket is its last.
use Rattle.std.specs.Prelude.{reverse}
use Rattle.reader.specs.declared.machine.Machine.TheInside.{Inside}
use Rattle.reader.specs.State.{Held}

abbrev pub held_of : {L : Type 0} → Inside L → Held
held_of m = record { place = record { expects = m.expects; brackets = reverse m.brackets.items }; inside = m.inside; bytes = m.word; waiting = m.begun }
