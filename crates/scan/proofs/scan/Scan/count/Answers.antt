use Rattle.std.proofs.Common.{arith}
use Rattle.std.proofs.lemmas.Grind.{common_steps}
use Rattle.scan.proofs.Comes.{length_recorded}
use Rattle.scan.proofs.scan.Scan.count.Goals as goal

pub returns-clause-value : goal.returns-clause-value
returns-clause-value c = λ k d h hold. grind (arith, common_steps, length_recorded)
