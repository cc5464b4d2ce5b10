use Rattle.sexpr_language.proofs.Lawfulness.{sexpr_rules_lawful}
use Rattle.sexpr_language.proofs.laws.sexpr_rules_are_lawful.Goals as goal

pub returns : goal.returns
returns c = sexpr_rules_lawful
