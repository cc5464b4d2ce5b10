use Rattle.std.proofs.Common.{arith}
use Rattle.printer.proofs.Turns.{turn_none, turn_passes, turn_waits}
use Rattle.printer.proofs.printer.Printer.turn.Goals as goal

pub returns-in_err-slot : goal.returns-in_err-slot
returns-in_err-slot c m pen h number out pr = rw c.from_residual.ensures (turn_none _ m pen h (c.in_err-slot.ensures _ _ h pr.scan))

pub returns-then-fits : goal.returns-then-fits
returns-then-fits c m pen h number out pr =
    turn_waits _ m pen h c.in_ok-slot.slot _ (c.in_ok-slot.ensures _ _ h pr.scan) (rw (c.unwrap_or.ensures, c.width.ensures _ _ h pr.scan) at (c.fits-fits.ensures m pen out pr.stands)) c.if-is_none.ensures c.if-not-over.true c.if-fits.true

pub returns : goal.returns
returns c m pen h number out pr =
    turn_passes _ m pen h c.in_ok-slot.slot _ (c.in_ok-slot.ensures _ _ h pr.scan) (rw (c.unwrap_or.ensures, c.width.ensures _ _ h pr.scan) at (c.fits-fits.ensures m pen out pr.stands))
    (grind arith)
