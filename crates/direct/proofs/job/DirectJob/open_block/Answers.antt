use Rattle.std.proofs.Common.{◌≡◌, ◌≤◌, false, leb, reverse, length, sym, refl, ap, ◌∙◌, arith, tests}
use Rattle.std.proofs.lemmas.List.{reverse-append, length-reverse}
use Rattle.std.proofs.lemmas.Result.{err_from_is_err_and}
use Rattle.std.proofs.lemmas.Bool.{le-leb, lt-leb}
use Rattle.layout.specs.Tokens.{Opening}
use Rattle.direct.specs.Calls.{opening_call, opened}
use Rattle.direct.proofs.Tables.{opened_push, opened_count}
use Rattle.direct.proofs.Steps.{next_range, next_blocks, next_broken, next_going, received_err, received_ok}
use Rattle.direct.proofs.job.DirectJob.open_block.Goals as goal

pub returns-then-not-is_opening-clause-stands : goal.returns-then-not-is_opening-clause-stands
returns-then-not-is_opening-clause-stands g c s calls st =
    let e = c.in_ok-ready.ensures in
    let o = c.args.opening in
    let rd = e.stands s calls st in
    rw c.from.ensures (received_err (next_range calls (opening_call o.offset o.fold o.anchor) (c.ready.new.self.sink ≡ c.args.self.now.sink) rd (sym c.is_opening.ensures ∙ c.if-not-is_opening.true) e.sink))

pub returns-then-is_full-clause-stands : goal.returns-then-is_full-clause-stands
returns-then-is_full-clause-stands g c s calls st =
    let e = c.in_ok-ready.ensures in
    let o = c.args.opening in
    let rd = e.stands s calls st in
    let n = rw rd.5 at (length-reverse c.ready.new.self.blocks.items) in
    let full : leb (length (opened rd.0)) 63 ≡ false = lt-leb (length (opened rd.0)) 63 (grind (arith, tests)) in
    rw c.from-then-is_full.ensures (received_err (next_blocks calls (opening_call o.offset o.fold o.anchor) (c.ready.new.self.sink ≡ c.args.self.now.sink) rd (sym c.is_opening.ensures ∙ c.if-not-is_opening.false) refl full e.sink))

pub returns-in_err-take-clause-stands : goal.returns-in_err-take-clause-stands
returns-in_err-take-clause-stands g c s calls st =
    let t = c.in_err-take.ensures in
    let o = c.args.opening in
    let p = err_from_is_err_and c.from_residual-in_err-take.result c.from_residual-in_err-take.ensures.1 in
    let rd = c.in_ok-ready.ensures.stands s calls st in
    let n = rw rd.5 at (length-reverse c.ready.new.self.blocks.items) in
    let few : length (opened rd.0) ≤ 63 = grind (arith, tests, c.is_full.ensures.fits) in
    let l = t.lays s rd.0 rd.3 rd.4 (rd.2, omega (arith, opened_count rd.0)) in
    rw (p.1, p.2) (received_err (next_broken calls (opening_call o.offset o.fold o.anchor) _ rd (sym c.is_opening.ensures ∙ c.if-not-is_opening.false, refl, le-leb _ 63 few) (t.opened s rd.3) l))

pub returns-clause-stands : goal.returns-clause-stands
returns-clause-stands g c s calls st =
    let t = c.in_ok-take.ensures in
    let o = c.args.opening in
    let O = Opening o.offset o.fold o.anchor in
    let rd = c.in_ok-ready.ensures.stands s calls st in
    let n = rw rd.5 at (length-reverse c.ready.new.self.blocks.items) in
    let few : length (opened rd.0) ≤ 63 = grind (arith, tests, c.is_full.ensures.fits) in
    let l = t.lays s rd.0 rd.3 rd.4 (rd.2, omega (arith, opened_count rd.0)) in
    received_ok _ rd.0
    (next_going calls (opening_call o.offset o.fold o.anchor) _ rd _ (sym c.is_opening.ensures ∙ c.if-not-is_opening.false, refl, le-leb _ 63 few) (t.opened s rd.3) l
    (ap reverse c.push.ensures.items ∙ rw (reverse-append, t.table, rd.5) (sym (rw (← rd.4.given) at (opened_push rd.0 O)))))
    rd.1 (t.opened s rd.3).job rd.4.given
