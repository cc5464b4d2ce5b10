use Rattle.std.proofs.Common.{◌≡◌, reverse, sym, refl, ap, ◌∙◌}
use Rattle.std.proofs.lemmas.Result.{err_from_is_err_and}
use Rattle.layout.specs.Tokens.{Ending}
use Rattle.direct.specs.Calls.{ending_call}
use Rattle.direct.proofs.Tables.{opened_push, turned_less}
use Rattle.direct.proofs.Steps.{next_receipt, next_broken, next_going}
use Rattle.direct.proofs.job.DirectJob.end_block.Goals as goal

pub returns-then-not-meets-clause-stands : goal.returns-then-not-meets-clause-stands
returns-then-not-meets-clause-stands g c s calls st =
    let e = c.in_ok-ready.ensures in
    let rd = e.stands s calls st in
    let no = rw (c.if-not-meets.true, rd.5, rd.3.job) at c.meets.ensures in
    rw (c.breaks.ensures.answer, c.breaks.ensures.job, c.from.ensures) (next_receipt calls (ending_call c.args.receipt.job c.args.receipt.token) (c.ready.new.self.sink ≡ c.args.self.now.sink) rd refl (sym no) e.sink)

pub returns-in_err-take-clause-stands : goal.returns-in_err-take-clause-stands
returns-in_err-take-clause-stands g c s calls st =
    let t = c.in_err-take.ensures in
    let d = ending_call c.args.receipt.job c.args.receipt.token in
    let p = err_from_is_err_and c.from_residual-in_err-take.result c.from_residual-in_err-take.ensures.1 in
    let rd = c.in_ok-ready.ensures.stands s calls st in
    let yes = rw (c.if-not-meets.false, rd.5, rd.3.job) at c.meets.ensures in
    let l = t.lays s rd.0 rd.3 rd.4 (rd.2, tt) in
    rw (p.1, p.2) (next_broken calls d _ rd (refl, sym yes, refl) (t.opened s rd.3) l)

pub returns-clause-stands : goal.returns-clause-stands
returns-clause-stands g c s calls st =
    let t = c.in_ok-take.ensures in
    let d = ending_call c.args.receipt.job c.args.receipt.token in
    let rd = c.in_ok-ready.ensures.stands s calls st in
    let yes = rw (c.if-not-meets.false, rd.5, rd.3.job) at c.meets.ensures in
    let l = t.lays s rd.0 rd.3 rd.4 (rd.2, tt) in
    next_going calls d _ rd _ (refl, sym yes, refl) (t.opened s rd.3) l (ap reverse c.pop.ensures.rest ∙ rw (turned_less, t.table, rd.5) (sym (opened_push rd.0 Ending)))
