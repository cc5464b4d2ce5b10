-- Each entry is its byte's class, since the table is what `class_of` gives at 0 to 255, which computing shows.
use Rattle.std.proofs.Common.{refl, rules}
use Rattle.rules.proofs.Table.{at}
use Rattle.sexpr_language.specs.Classes.{class_of}
use Rattle.sexpr.specs.declared.classes.TheConstants.{CLASSES}
use Rattle.sexpr.proofs.classes.class_of.Goals as goal

pub returns : goal.returns
returns c = at class_of CLASSES 256 c.args.byte _ refl (search rules)
