use Rattle.reading.proofs.Limits.{accepts_documents}
use Rattle.reading.proofs.Bounds.{words_in_place}
use Rattle.reading.proofs.laws.accepts_documents.Goals as goal

pub returns : goal.returns
returns c = record { documents = accepts_documents; places = words_in_place }
