-- Each turn writes its byte behind the run before it, or the run is cut there.
use Rattle.std.proofs.Common.{◌+◌, Ok, Err}
use Rattle.std.proofs.lemmas.Result.{err_from_is_err_and}
use Rattle.sink.proofs.Runs.{ran_byte, ran_cut}
use Rattle.sink.proofs.write.write.Goals as goal

pub loop-byte-preserved : goal.loop-byte-preserved
loop-byte-preserved g c =
    let m = g.S.Sink in
    ran_byte m.text m.rule m.later g.met.S.Sink.laws c.args.sink.now c.loop-byte.sink c.write_byte.new.sink c.args.bytes.now c.loop-byte.byte-index c.args.older (Ok tt) c.loop-byte-test.true c.loop-byte.invariant c.in_ok-write_byte.ensures

pub returns-in_err-write_byte : goal.returns-in_err-write_byte
returns-in_err-write_byte g c =
    let m = g.S.Sink in
    let laws = g.met.S.Sink.laws in
    let s = c.args.sink.now in
    let t = c.write_byte.new.sink in
    let bytes = c.args.bytes.now in
    let i = c.loop-byte.byte-index in
    let older = c.args.older in
    let f = c.in_err-write_byte.field-0.0 in
    let p = err_from_is_err_and c.from_residual.result c.from_residual.ensures.1 in
    let run = ran_byte m.text m.rule m.later laws s c.loop-byte.sink t bytes i older (Err f) c.loop-byte-test.true c.loop-byte.invariant c.in_err-write_byte.ensures in
    rw (p.1, p.2) (ran_cut m.text m.rule m.later laws s t bytes (i + 1) older f run)
