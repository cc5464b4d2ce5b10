use Rattle.std.proofs.Common.{ℕ, length, subst, arith}
use Rattle.std.proofs.lemmas.Grind.{common_steps}
use Rattle.stream.specs.Recorded.{waits}
use Rattle.stream.proofs.Settles.{mixed_all}
use Rattle.scan.specs.Holding.{Settling}
use Rattle.scan.proofs.Settled.{keeps_waits}
use Rattle.scan.proofs.scan.Scan.settle.Goals as goal

pub loop-init : goal.loop-init
loop-init c = λ k d h hold.
    let n = length (waits k hold.base d h) in
    (hold.base, n, record { counts = hold.counts; slots = grind (arith, mixed_all n k hold.base d h, hold.slots); places = grind (arith, common_steps, hold.places); most = omega arith; least = keeps_waits k hold.base d h })

pub loop-preserved : goal.loop-preserved
loop-preserved c = λ k d h hold.
    let i = c.loop.invariant k d h hold in
    let s = c.loop-test.ensures.settles k i.0 d h i.1 i.2 in
    (i.0, s.0, s.2)

pub returns : goal.returns
returns c = λ k d h hold.
    let i = c.loop.invariant k d h hold in
    let s = c.loop-test.ensures.settles k i.0 d h i.1 i.2 in
    (i.0, subst (λ (n : ℕ). Settling k i.0 d h n c.settle_last.new.self) s.0 s.1)
