-- A newline starts the next row, another byte goes behind the line of the last; else nothing changes.
use Rattle.std.proofs.Common.{◌≡◌, ◌+◌, ◌-◌, length, refl, arith, rules}
use Rattle.std.proofs.lemmas.Result.{err_from_is_err_and}
use Rattle.sink.specs.Begins.{begins_more}
use Rattle.sink.proofs.Slips.{Grown, newline_grown, newline_over, byte_grown, byte_over, len_most, same_rows, same_slip}
use Rattle.sink.proofs.slip.filling.SlipSink.put.Goals as goal
use Rattle.sink.proofs.slip.filling.SlipSink.put.Goals.{Joined-byte-eq10, then-byte-eq10+in_ok-try_push, else-byte-eq10+in_ok-try_push-2}

pub returns-in_err-try_push-clause-cases : goal.returns-in_err-try_push-clause-cases
returns-in_err-try_push-clause-cases c =
    let s = c.args.self.now in
    let p = err_from_is_err_and c.from_residual.result c.from_residual.ensures.1 in
    let e = c.in_err-try_push.ensures in
    rw (p.1, p.2) (record { over = newline_over s c.args.byte c.if-byte-eq10.true e.full }, same_slip _ _ e.err refl, refl)

pub returns-in_err-try_push-2-clause-cases : goal.returns-in_err-try_push-2-clause-cases
returns-in_err-try_push-2-clause-cases c =
    let s = c.args.self.now in
    let p = err_from_is_err_and c.from_residual-in_err-try_push-2.result c.from_residual-in_err-try_push-2.ensures.1 in
    let e = c.in_err-try_push-2.ensures in
    let rows = c.deref_mut.ensures.value in
    let count : length c.deref_mut.result.now ≡ c.len-last.result - 1 + 1 = rw rows (omega arith) in
    rw (p.1, p.2) (record { over = byte_over s c.args.byte c.if-byte-eq10.false _ rows _ count _ e.full }, same_slip _ _ (same_rows s.rows _ _ _ _ rows e.err) refl, refl)

pub overflow_add-self : goal.overflow_add-self
overflow_add-self c = omega (arith, len_most c.args.self.now)

-- what the rows hold where a byte was pushed
grew : (c : Joined-byte-eq10) → Grown c.args.self.now c.args.byte c.if-byte-eq10.self.1.0.items
grew c =
    let s = c.args.self.now in
    elim c.if-byte-eq10.branch [
      | then-byte-eq10+in_ok-try_push w ↦
          let e = w.in_ok-try_push.ensures in
          rw (w.self-is, e.ok) (newline_grown s c.args.byte w.if-byte-eq10.true _ (search rules) (e.variant.0 refl))
      | else-byte-eq10+in_ok-try_push-2 w ↦
          let e = w.in_ok-try_push-2.ensures in
          let rows = w.deref_mut.ensures.value in
          let count : length w.deref_mut.result.now ≡ w.len-last.result - 1 + 1 = rw rows (omega arith) in
          rw w.self-is (byte_grown s c.args.byte w.if-byte-eq10.false _ rows _ count _ _ e.ok (e.variant.0 refl))
    ]

pub invariant_of-self-2 : goal.invariant_of-self-2
invariant_of-self-2 c = let h = grew c in record { some = h.some; few = h.few; split = h.split; narrow = h.narrow; size = h.size }

pub returns-clause-later : goal.returns-clause-later
returns-clause-later c = begins_more _ _ _ (grew (goal.at.returns-clause-later c).Joined-byte-eq10).text

pub returns-clause-cases : goal.returns-clause-cases
returns-clause-cases c = let h = grew (goal.at.returns-clause-cases c).Joined-byte-eq10 in record { fits = h.fits; text = h.text }
