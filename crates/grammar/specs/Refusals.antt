-- The number of each refusal.
use Rattle.std.specs.Prelude.{ℕ}
use Rattle.grammar.specs.declared.refusal.Refusal.{Refusal}
use Rattle.grammar.specs.declared.refusal.Refusal.TheVariants.{NoDocument, LongWord, ManyBrackets, Unfinished}

abbrev pub number_of : Refusal → ℕ
number_of NoDocument = 3
number_of LongWord = 4
number_of ManyBrackets = 5
number_of Unfinished = 6
