use Rattle.std.proofs.Common.{sym, ap}
use Rattle.rules.specs.Machine.{means}
use Rattle.reader.proofs.Sound.{next_state}
use Rattle.reader.proofs.reader.answering.ReaderGrammar.take.Goals as goal

pub returns : goal.returns
returns g c =
    let r = g.L.Language.rules in
    let w = c.in_ok-step.ensures in
    let v = c.step.new.self in
    (sym (ap (means r) (next_state r c.args.self.now.state c.args.byte v w)), (v.ended, w.answered, c.counted.ensures.words, c.counted.ensures.tokens))
