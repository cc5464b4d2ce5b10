use Rattle.reader.proofs.Endings.{own_is_last}
use Rattle.reader.proofs.laws.own_is_last.Goals as goal

pub returns : goal.returns
returns g c = own_is_last g.L.Language.rules g.L.Language.lawful
