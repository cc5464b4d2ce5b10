use Rattle.sink.proofs.Kept.{kept_longest}
use Rattle.sink.proofs.laws.kept_is_longest.Goals as goal

pub returns : goal.returns
returns c p beg before bytes h = kept_longest p beg before bytes h
