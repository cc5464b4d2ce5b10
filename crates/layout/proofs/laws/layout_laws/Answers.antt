use Rattle.layout.proofs.Passes.{written_begins, held_is_narrow, passing_joins, rest_follows}
use Rattle.layout.proofs.Frees.{layout_is_free}
use Rattle.layout.proofs.laws.layout_laws.Goals as goal

pub returns : goal.returns
returns c = record { begins = written_begins; narrow = held_is_narrow; joins = passing_joins; rest = rest_follows; free = layout_is_free }
