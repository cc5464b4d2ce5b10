use Rattle.json_language.proofs.Lawful.{json_lawful}
use Rattle.json_language.proofs.laws.json_rules_are_lawful.Goals as goal

pub returns : goal.returns
returns c = json_lawful
