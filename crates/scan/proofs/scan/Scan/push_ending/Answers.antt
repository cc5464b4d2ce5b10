use Rattle.std.proofs.Common.{refl, arith}
use Rattle.std.proofs.lemmas.Grind.{common_steps}
use Rattle.layout.specs.Tokens.{Ending}
use Rattle.scan.proofs.Comes.{length_recorded, come_quiet}
use Rattle.scan.proofs.scan.Scan.push_ending.Goals as goal

pub returns : goal.returns
returns c = λ k d h hold few. let room = hold.counts.room in come_quiet k d h Ending c.args.self.now _ hold refl (omega arith) (grind (arith, common_steps, length_recorded))
