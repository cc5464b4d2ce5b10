use Rattle.reading.proofs.Stories.{tells}
use Rattle.reading.proofs.laws.tells_the_words.Goals as goal

pub returns : goal.returns
returns c = tells
