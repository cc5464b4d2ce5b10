use Rattle.std.proofs.Common.{refl}
use Rattle.std.proofs.lemmas.Result.{err_from_is_err_and}
use Rattle.layout.specs.View.{view}
use Rattle.printer.proofs.Ending.{given_passes}
use Rattle.printer.proofs.printer.Printer.give.Goals as goal

pub returns-in_err-room-clause-gives : goal.returns-in_err-room-clause-gives
returns-in_err-room-clause-gives g c m pen h number out pr narrow next =
    let p = err_from_is_err_and c.from_residual.result c.from_residual.ensures.1 in
    let room = c.in_err-room.ensures m pen h number out pr in
    rw (p.1, p.2, room.1) (room.0, refl, (refl, refl))

pub returns-clause-gives : goal.returns-clause-gives
returns-clause-gives g c m pen h number out pr narrow next =
    let k = g.S.Sink in
    let s = c.args.sink.now in
    let few = c.in_ok-room.ensures m pen h number out pr in
    given_passes m pen h number out (view c.args.token) (k.rule s) (k.text s) c.args.self.now.older _ _ _ _ few (rw c.hold.ensures.older at (c.pass_all.ensures.passes m pen _ number out (c.hold.ensures.holds m pen h number out pr few narrow next)))
