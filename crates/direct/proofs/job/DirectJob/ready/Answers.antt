use Rattle.std.proofs.Common.{refl}
use Rattle.direct.proofs.Steps.{ready_broken, ready_tokens}
use Rattle.direct.proofs.job.DirectJob.ready.Goals as goal

pub returns-in-Some-clause-stands : goal.returns-in-Some-clause-stands
returns-in-Some-clause-stands g c s calls st = ready_broken s calls _ c.in-Some.fault _ st c.in-Some.is refl

pub returns-then-self-ge-TOKENS-clause-stands : goal.returns-then-self-ge-TOKENS-clause-stands
returns-then-self-ge-TOKENS-clause-stands g c s calls st = rw (c.breaks.ensures.answer, c.breaks.ensures.job, c.from.ensures) (ready_tokens s calls _ _ st c.in_default.is c.if-self-ge-TOKENS.true refl)
