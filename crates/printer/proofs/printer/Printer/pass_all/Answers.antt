use Rattle.std.proofs.Common.{refl, ◌∙◌, arith}
use Rattle.std.proofs.lemmas.Result.{err_from_is_err_and}
use Rattle.printer.proofs.Course.{begins, goes_on, stops, cuts, all_passed}
use Rattle.printer.proofs.printer.Printer.pass_all.Goals as goal

pub loop-init : goal.loop-init
loop-init g c = record { rule = refl; later = g.met.S.Sink.laws.stays c.args.sink.now; older = refl; so = λ m pen h number out pr. begins pr (g.met.S.Sink.laws.held c.args.sink.now) }

pub returns-in_err-pass_first-clause-passes : goal.returns-in_err-pass_first-clause-passes
returns-in_err-pass_first-clause-passes g c m pen h number out pr =
    let laws = g.met.S.Sink.laws in
    let i = c.loop.invariant in
    let so = i.so m pen h number out pr in
    let p = err_from_is_err_and c.from_residual.result c.from_residual.ensures.1 in
    rw (p.1, p.2) (cuts so (laws.beginnings c.args.sink.now) (rw (i.rule, i.older) at (c.in_err-pass_first.ensures.passes m _ _ _ _ so.prints)))

pub returns-then-not-branch-clause-passes : goal.returns-then-not-branch-clause-passes
returns-then-not-branch-clause-passes g c m pen h number out pr =
    let so = c.loop.invariant.so m pen h number out pr in
    stops so (rw c.if-not-branch.true at (c.in_ok-pass_first.ensures.passes m _ _ _ _ so.prints))

pub loop-preserved : goal.loop-preserved
loop-preserved g c =
    let laws = g.met.S.Sink.laws in
    let i = c.loop.invariant in
    let e = c.in_ok-pass_first.ensures in
    record {
      rule = e.rule ∙ i.rule;
      later = laws.goes _ _ _ i.later e.later;
      older = e.older ∙ i.older;
      so = λ m pen h number out pr.
          let so = i.so m pen h number out pr in
          goes_on so (rw (c.if-not-branch.false, i.rule) at (e.passes m _ _ _ _ so.prints));
    }

pub returns-clause-passes : goal.returns-clause-passes
returns-clause-passes g c m pen h number out pr =
    let n = c.count-held.ensures.value _ _ h pr.scan in
    all_passed (c.loop.invariant.so m pen h number out pr) (omega (arith, c.loop-test.false))
