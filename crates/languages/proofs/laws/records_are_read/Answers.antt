use Rattle.std.proofs.Common.{refl}
use Rattle.languages.proofs.laws.records_are_read.Goals as goal

pub returns : goal.returns
returns c = record {
  one_line = record { accepts = refl; stands = refl };
  six_lines = record { accepts = refl; stands = refl };
  three_lines = record { accepts = refl; stands = refl };
  no_items = record { accepts = refl; stands = refl };
  no_expressions = record { accepts = refl; stands = refl };
  no_value = refl;
  two_values = refl;
  with_blanks = refl;
  same_words = refl;
  wrong_bracket = refl;
}
