use Rattle.std.proofs.Common.{sym, refl}
use Rattle.direct.specs.Calls.{text_call}
use Rattle.direct.proofs.job.DirectJob.text.Goals as goal

pub returns-clause-stands : goal.returns-clause-stands
returns-clause-stands g c s calls st = c.put.ensures.stands s calls (text_call c.args.bytes.now) st refl (sym c.is_text.ensures) tt
