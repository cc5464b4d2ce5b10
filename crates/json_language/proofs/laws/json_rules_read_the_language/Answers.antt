use Rattle.json_language.proofs.Reading.{rules_read_json}
use Rattle.json_language.proofs.laws.json_rules_read_the_language.Goals as goal

pub returns : goal.returns
returns c = rules_read_json
