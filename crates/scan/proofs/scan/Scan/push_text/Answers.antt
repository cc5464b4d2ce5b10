use Rattle.std.proofs.Common.{refl, arith}
use Rattle.std.proofs.lemmas.Grind.{common_steps}
use Rattle.layout.specs.Tokens.{Text}
use Rattle.scan.proofs.Comes.{length_recorded, come_quiet}
use Rattle.scan.proofs.scan.Scan.push_text.Goals as goal

pub returns : goal.returns
returns c = λ k d h hold few fit wide. come_quiet k d h (Text c.args.bytes.now) c.args.self.now _ hold refl (omega arith) (grind (arith, common_steps, length_recorded))
