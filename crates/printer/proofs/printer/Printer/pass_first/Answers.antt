use Rattle.std.proofs.Common.{sym, refl, ◌∙◌}
use Rattle.std.proofs.lemmas.Result.{err_from_is_err_and}
use Rattle.printer.proofs.Advances.{waits_here, advance_cut, advance_ok}
use Rattle.printer.proofs.printer.Printer.pass_first.Goals as goal

pub returns-in_default-clause-passes : goal.returns-in_default-clause-passes
returns-in_default-clause-passes g c m pen h number out pr = (waits_here c.args.over m pen h (c.in_default.ensures m pen h number out pr), refl, pr)

pub returns-in_err-at_token-clause-passes : goal.returns-in_err-at_token-clause-passes
returns-in_err-at_token-clause-passes g c m pen h number out pr =
    let p = err_from_is_err_and c.from_residual.result c.from_residual.ensures.1 in
    rw (p.1, p.2) (advance_cut c.args.over c.in-Some.fits h c.write_first.result (c.in-Some.ensures m pen h number out pr) pr (λ t ts. c.write_first.ensures.writes m pen t ts number out) (sym c.at_token.ensures ∙ c.in_err-at_token.was))

pub returns-clause-passes : goal.returns-clause-passes
returns-clause-passes g c m pen h number out pr =
    advance_ok c.args.over c.in-Some.fits h c.write_first.result (g.met.S.Sink.laws.beginnings c.args.sink.now) (c.in-Some.ensures m pen h number out pr) pr (λ t ts. c.write_first.ensures.writes m pen t ts number out)
    (sym c.at_token.ensures ∙ c.in_ok-at_token.was) c.drop_first.ensures c.saturating_add-self.ensures
