use Rattle.std.proofs.Common.{rules}
use Rattle.std.proofs.lemmas.List.{take_more_set}
use Rattle.reader.proofs.bytes.Bytes.begin.Goals as goal

pub returns : goal.returns
returns c = take_more_set c.self.inside.cells 0 c.args.first (search rules)
