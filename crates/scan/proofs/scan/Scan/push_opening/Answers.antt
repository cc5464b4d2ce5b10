use Rattle.std.proofs.Common.{refl, arith}
use Rattle.std.proofs.lemmas.Grind.{common_steps}
use Rattle.layout.specs.Tokens.{Opening}
use Rattle.scan.proofs.Comes.{length_recorded, length_waits, come_quiet}
use Rattle.scan.proofs.scan.Scan.push_opening.Goals as goal

pub returns : goal.returns
returns c = λ k d h hold few low. let room = hold.counts.room in come_quiet k d h (Opening c.args.token.offset c.args.token.fold c.args.token.anchor) c.args.self.now _ hold refl (omega arith) (grind (arith, common_steps, length_recorded, length_waits))
