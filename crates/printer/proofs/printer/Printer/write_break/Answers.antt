use Rattle.std.proofs.Common.{refl, ap, ◌∙◌}
use Rattle.std.proofs.lemmas.Result.{err_from_is_err_and}
use Rattle.pen.specs.At.{bytes_of}
use Rattle.pen.proofs.Breaks.{breaking_writes, after_break}
use Rattle.printer.proofs.printer.Printer.write_break.Goals as goal

pub returns-in_err-write_breaking-clause-writes : goal.returns-in_err-write_breaking-clause-writes
returns-in_err-write_breaking-clause-writes g c m pen out at =
    let p = err_from_is_err_and c.from_residual.result c.from_residual.ensures.1 in
    let how = ap bytes_of (c.break_as-how.ensures m pen out at) ∙ breaking_writes m pen c.args.gap.blanks c.args.gap.offset c.args.fits in
    rw (p.1, p.2) (record { wrote = rw how at c.in_err-write_breaking.ensures.writes; goes = tt })

pub returns-clause-writes : goal.returns-clause-writes
returns-clause-writes g c m pen out at =
    let is = c.break_as-how.ensures m pen out at in
    let how = ap bytes_of is ∙ breaking_writes m pen c.args.gap.blanks c.args.gap.offset c.args.fits in
    record {
      wrote = rw how at c.in_ok-write_breaking.ensures.writes;
      goes = record { stands = after_break m pen out _ c.args.gap.blanks c.args.gap.offset c.args.fits _ is (c.broke.ensures m pen out at); scan = refl; passed = refl; older = refl };
    }
