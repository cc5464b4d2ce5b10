use Rattle.reading.proofs.Shows.{shows_laws}
use Rattle.reading.proofs.laws.shows_the_laws.Goals as goal

pub returns : goal.returns
returns c = shows_laws
