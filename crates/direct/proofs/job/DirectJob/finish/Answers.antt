use Rattle.std.proofs.Common.{◌≡◌, ◌-◌, length, arith, tests}
use Rattle.std.proofs.lemmas.List.{length-reverse}
use Rattle.std.proofs.lemmas.Result.{err_from_is_err_and}
use Rattle.direct.specs.Calls.{opened}
use Rattle.direct.specs.Course.{course}
use Rattle.direct.proofs.Steps.{going_by}
use Rattle.direct.proofs.Drains.{drain_whole, drain_cut}
use Rattle.direct.proofs.job.DirectJob.finish.Goals as goal

pub returns-in_err-finish-clause-finishes : goal.returns-in_err-finish-clause-finishes
returns-in_err-finish-clause-finishes g c s calls st =
    let j = c.args.self.now in
    let p = err_from_is_err_and c.from_residual.result c.from_residual.ensures.1 in
    let b = going_by s (course s calls) _ st.by c.in_default.is in
    let n = rw b.2.1 at (length-reverse j.blocks.items) in
    let none : length (opened b.0) ≡ 0 = grind (arith, tests) in
    rw (p.1, p.2, b.1) (drain_cut s b.0 _ _ c.finish.new.self.pen st.opened b.2.0 none _ (g.met.S.Sink.laws.held j.sink) (c.in_err-finish.ensures.finishes s.margin _ _ _ _ b.2.0.prints))

pub returns-clause-finishes : goal.returns-clause-finishes
returns-clause-finishes g c s calls st =
    let j = c.args.self.now in
    let e = c.in_ok-finish.ensures in
    let b = going_by s (course s calls) _ st.by c.in_default.is in
    let n = rw b.2.1 at (length-reverse j.blocks.items) in
    let none : length (opened b.0) ≡ 0 = grind (arith, tests) in
    let o = st.opened.older in
    let bytes : c.written.result ≡ length (g.S.Sink.text c.finish.new.sink) - length s.older = omega (arith, c.written.ensures.value, e.older) in
    rw (c.newlines.ensures, c.widest.ensures, b.1) (drain_whole s b.0 _ _ c.finish.new.self.pen st.opened b.2.0 none _ (e.finishes s.margin _ _ _ _ b.2.0.prints) c.written.ensures.counts bytes)
