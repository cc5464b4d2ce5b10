use Rattle.std.proofs.Common.{reverse, refl, ap, arith}
use Rattle.std.proofs.lemmas.Result.{err_from_is_err_and}
use Rattle.layout.specs.View.{view}
use Rattle.direct.specs.Standing.{Seen, seen}
use Rattle.direct.proofs.Lays.{lay_ok, lay_err}
use Rattle.direct.proofs.job.DirectJob.lay.Goals as goal

pub returns-in_err-give-clause-lays : goal.returns-in_err-give-clause-lays
returns-in_err-give-clause-lays g c s ts o go f =
    let k = g.S.Sink in
    let j = c.args.self.now in
    let w : Seen = record { text = k.text c.give.new.sink; rule = k.rule c.give.new.sink; printer = c.give.new.self; job = j.number; given = j.given; blocks = reverse j.blocks.items; fault = j.fault } in
    let p = err_from_is_err_and c.from_residual.result c.from_residual.ensures.1 in
    rw (p.1, p.2) (lay_err s ts (view c.args.token) (seen k.text k.rule j) w _ o go f c.in_err-give.field-0.0 (g.met.S.Sink.laws.held j.sink) c.in_err-give.ensures.gives (λ same. ap k.text same.1))

pub returns-clause-lays : goal.returns-clause-lays
returns-clause-lays g c s ts o go f =
    let few = f.0 in
    let n = go.given in
    lay_ok s ts (view c.args.token) (seen g.S.Sink.text g.S.Sink.rule c.args.self.now) _ (Unit {0}) o go f c.in_ok-give.ensures.gives refl (omega (arith, c.saturating_add.ensures, c.min-self.ensures))
