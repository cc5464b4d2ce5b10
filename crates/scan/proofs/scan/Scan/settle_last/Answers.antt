use Rattle.std.proofs.Common.{refl}
use Rattle.scan.proofs.Settled.{settle_stop, settle_step}
use Rattle.scan.proofs.scan.Scan.settle_last.Goals as goal

pub returns-then-place-self-clause-settles : goal.returns-then-place-self-clause-settles
returns-then-place-self-clause-settles c = λ k b d h n stl. (settle_stop k b d h n _ stl c.in-Some.place c.in-Some.ensures c.if-place-self.true, stl)

pub returns-clause-settles : goal.returns-clause-settles
returns-clause-settles c = λ k b d h n stl. settle_step k b d h n _ stl c.in-Some.place c.in-Some.ensures c.if-place-self.false c.know_size.ensures.most _ _ c.from-at.ensures refl _ _ c.know_size.ensures.others c.pop_back.ensures.rest c.know_size.ensures.sized
