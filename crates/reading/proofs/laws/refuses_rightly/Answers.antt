use Rattle.reading.proofs.Judges.{three_if_hopeless}
use Rattle.reading.proofs.Limits.{six_if_unfinished}
use Rattle.reading.proofs.Fours.{four_if_long}
use Rattle.reading.proofs.Fives.{five_if_deep}
use Rattle.reading.proofs.laws.refuses_rightly.Goals as goal

pub returns : goal.returns
returns c = record { three = three_if_hopeless; four = four_if_long; five = five_if_deep; six = six_if_unfinished }
