use Rattle.std.proofs.Common.{sym, refl, ◌∙◌}
use Rattle.std.proofs.lemmas.List.{take_at}
use Rattle.std.proofs.lemmas.Result.{err_from_is_err_and}
use Rattle.stream.specs.Recorded.{texts}
use Rattle.printer.proofs.printer.Printer.write_text.Goals as goal

pub returns-in_err-write_both-clause-writes : goal.returns-in_err-write_both-clause-writes
returns-in_err-write_both-clause-writes g c m pen bytes ts number out pr e =
    let b = c.in_err-write_both.ensures in
    let p = err_from_is_err_and c.from_residual.result c.from_residual.ensures.1 in
    let runs = c.text.ensures _ _ _ pr.scan ∙ take_at bytes (texts ts) c.args.n (sym e) in
    rw (p.1, p.2, ← runs) (record { wrote = record { stands = b.text; cases = b.cases }; goes = tt })

pub returns-clause-writes : goal.returns-clause-writes
returns-clause-writes g c m pen bytes ts number out pr e =
    let b = c.in_ok-write_both.ensures in
    let runs = c.text.ensures _ _ _ pr.scan ∙ take_at bytes (texts ts) c.args.n (sym e) in
    record {
      wrote = rw (← runs) (record { stands = b.text; cases = b.cases });
      goes = record { stands = c.wrote.ensures m pen out bytes pr.stands (sym e) pr.plain.0; scan = refl; passed = refl; older = refl };
    }
