use Rattle.std.proofs.Common.{arith}
use Rattle.std.proofs.lemmas.Grind.{common_steps}
use Rattle.scan.proofs.Comes.{length_waits, come_break}
use Rattle.scan.proofs.Settled.{length_mixed}
use Rattle.scan.proofs.scan.Scan.push_break.Goals as goal

pub returns : goal.returns
returns c = λ k d h hold few fit.
    let st = c.settle.ensures k d h hold in
    come_break k st.0 d h c.args.token.blanks c.args.token.offset c.settle.new.self _ st.1 fit (grind (arith, common_steps, length_mixed, length_waits, st.1))
