use Rattle.std.proofs.Common.{refl}
use Rattle.layout.proofs.laws.sample_records.Goals as goal

pub returns : goal.returns
returns c = refl
