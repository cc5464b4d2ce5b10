use Rattle.std.proofs.Common.{ap, sym, ◌∙◌, rules}
use Rattle.reader.specs.State.{Held}
use Rattle.reader.specs.Fields.{held_of}
use Rattle.reader.proofs.Leaves.{leaves, ends_word}
use Rattle.reader.proofs.machine.Machine.end.Goals as goal

pub invariant_of-self : goal.invariant_of-self
invariant_of-self g c =
    leaves g.L.Language.rules g.L.Language.lawful c.settle.new.self c.in-Some.inside c.around-piece.result c.behind-behind.result (held_of c.self.inside).place c.around-piece.ensures c.behind-behind.ensures
    (ap (λ (x : Held). x.place) c.self.view_is)

pub returns : goal.returns
returns g c =
    let w = ends_word g.L.Language.rules g.L.Language.lawful c.settle.new.self c.in-Some.inside c.around-piece.result c.behind-behind.result (held_of c.self.inside).place c.around-piece.ensures c.behind-behind.ensures
    (ap (λ (x : Held). x.place) c.self.view_is) (sym c.may_close_behind.ensures ∙ c.if-not-may_close_behind.false) in
    search rules
