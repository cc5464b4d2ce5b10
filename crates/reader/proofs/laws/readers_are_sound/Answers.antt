use Rattle.reader.proofs.Sound.{sound_fresh, sound_went, sound_closed}
use Rattle.reader.proofs.laws.readers_are_sound.Goals as goal

pub returns : goal.returns
returns g c = record { fresh = sound_fresh _; stays = sound_went _; ends = sound_closed _ }
