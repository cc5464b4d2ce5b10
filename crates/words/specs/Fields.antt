-- What a word reader has still to hand out, by its fields.
use Rattle.std.specs.Prelude.{List}
use Rattle.rules.specs.Rules.{Rules}
use Rattle.reading.specs.Places.{Placed}
use Rattle.words.specs.declared.words.Words.TheInside.{Inside}
use Rattle.words.specs.Left.{Telling, waiting, left_by, unread_by, SoundBy}

abbrev pub waits : {L : Type 0} → Rules → Inside L → List Placed
waits r v = waiting r v.taken v.reader.ended v.handed

abbrev pub telling : {L : Type 0} → Rules → Inside L → Telling
telling r v = record { text = v.text.now; left = left_by r v.fault v.text.now v.taken v.reader.state (waits r v); unread = unread_by v.fault v.text.now v.taken }

abbrev pub Sound : {L : Type 0} → Rules → Inside L → Type 0
Sound r v = SoundBy r v.fault v.text.now v.taken v.reader.state (waits r v)
