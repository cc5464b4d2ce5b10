use Rattle.sexpr_language.proofs.Reading.{rules_read_sexprs}
use Rattle.sexpr_language.proofs.laws.sexpr_rules_read_the_language.Goals as goal

pub returns : goal.returns
returns c = rules_read_sexprs
