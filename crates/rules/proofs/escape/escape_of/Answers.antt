use Rattle.std.proofs.Common.{ℕ, drop, ap, ◌∙◌}
use Rattle.std.proofs.lemmas.List.{take_rest}
use Rattle.rules.proofs.escape.escape_of.Goals as goal

pub returns : goal.returns
returns c = take_rest c.args.word.now _ ∙ ap (λ (from : ℕ). drop from c.args.word.now) c.saturating_sub-from.ensures
