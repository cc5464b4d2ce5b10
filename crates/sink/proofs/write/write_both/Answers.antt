-- The second run stands behind the first, or the first is cut.
use Rattle.std.proofs.lemmas.Result.{err_from_is_err_and}
use Rattle.sink.proofs.Runs.{ran_both, ran_front}
use Rattle.sink.proofs.write.write_both.Goals as goal

pub returns-in_err-write : goal.returns-in_err-write
returns-in_err-write g c =
    let m = g.S.Sink in
    let p = err_from_is_err_and c.from_residual.result c.from_residual.ensures.1 in
    rw (p.1, p.2) (ran_front m.text m.rule m.later g.met.S.Sink.laws c.args.sink.now c.write.new.sink c.args.first.now c.args.second.now c.args.older c.in_err-write.field-0.0 c.in_err-write.ensures)

pub returns : goal.returns
returns g c =
    let m = g.S.Sink in
    ran_both m.text m.rule m.later g.met.S.Sink.laws c.args.sink.now c.write.new.sink c.write-2.new.sink c.args.first.now c.args.second.now c.args.older _ c.in_ok-write.ensures c.write-2.ensures
