use Rattle.std.proofs.Common.{sym, refl}
use Rattle.direct.specs.Calls.{break_call}
use Rattle.direct.proofs.job.DirectJob.break_at.Goals as goal

pub returns-clause-stands : goal.returns-clause-stands
returns-clause-stands g c s calls st = c.put.ensures.stands s calls (break_call c.args.gap.blanks c.args.gap.offset) st refl (sym c.is_break.ensures) tt
