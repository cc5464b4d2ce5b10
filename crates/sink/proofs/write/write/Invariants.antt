-- After i turns the first i bytes are written.
use Rattle.std.proofs.Common.{◌≡◌, true, ◌++◌, take}
use Rattle.sink.specs.Fault.{Leaves}
use Rattle.sink.proofs.write.write.Given as goal

abbrev pub invariant-loop-byte : goal.invariant-loop-byte
invariant-loop-byte g l =
    let m = g.S.Sink in
    let s = l.initial.sink in
    let run = take l.byte-index l.bytes in
    record {
      rule : m.rule l.sink ≡ m.rule s;
      later : m.later s l.sink;
      text : Leaves m.text m.rule s run l.sink;
      cases : (m.rule s).admits (m.text s ++ run) ≡ true;
    }
