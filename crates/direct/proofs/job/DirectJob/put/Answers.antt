use Rattle.std.proofs.Common.{◌≡◌, ◌∙◌}
use Rattle.direct.proofs.Steps.{next_range, next_plain, plain_fit}
use Rattle.direct.proofs.job.DirectJob.put.Goals as goal

pub returns-then-not-fits-clause-stands : goal.returns-then-not-fits-clause-stands
returns-then-not-fits-clause-stands g c s calls d st is ran pl =
    let e = c.in_ok-ready.ensures in
    let rd = e.stands s calls st in
    rw c.from.ensures (next_range calls d (c.ready.new.self.sink ≡ c.args.self.now.sink) rd (ran ∙ c.if-not-fits.true) e.sink)

pub returns-clause-stands : goal.returns-clause-stands
returns-clause-stands g c s calls d st is ran pl =
    let t = c.take.ensures in
    let rd = c.in_ok-ready.ensures.stands s calls st in
    let inr = ran ∙ c.if-not-fits.false in
    let l = rw (← is) at (t.lays s rd.0 rd.3 rd.4 (rd.2, rw is at (plain_fit rd.0 d pl inr))) in
    next_plain calls d _ rd pl inr (t.opened s rd.3) l
