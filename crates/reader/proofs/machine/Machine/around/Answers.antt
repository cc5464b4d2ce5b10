use Rattle.std.proofs.Common.{◌≡◌, get_or, ◌∙◌, Some, rules}
use Rattle.reader.specs.Pieces.{piece_at}
use Rattle.reader.specs.Fields.{held_of}
use Rattle.reader.proofs.Leaves.{under_state, under_sound, has_first, piece_first}
use Rattle.reader.proofs.machine.Machine.around.Goals as goal

pub bounds-as_slice-0 : goal.bounds-as_slice-0
bounds-as_slice-0 g c =
    let h = c.args.self.now in
    let s = under_sound g.L.Language.rules (held_of c.self.inside) h c.args.inside c.self.invariant c.self.view_is c.requires.under c.requires.settled in
    let first = has_first g.L.Language.rules h.place c.args.inside h.bytes s in
    search rules

pub returns : goal.returns
returns g c =
    let r = g.L.Language.rules in
    let h = c.args.self.now in
    let s = under_sound r (held_of c.self.inside) h c.args.inside c.self.invariant c.self.view_is c.requires.under c.requires.settled in
    let piece : piece_at r h.place (get_or h.bytes 0 0) ≡ Some c.unwrap.result = search rules in
    record { state = under_state h c.args.inside c.requires.under c.requires.settled; sound = s; piece = piece_first r h.place h.bytes (has_first r h.place c.args.inside h.bytes s) ∙ piece }
