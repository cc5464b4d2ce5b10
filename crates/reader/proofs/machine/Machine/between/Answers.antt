use Rattle.std.proofs.Common.{◌≡◌, [], ◌∷◌, reverse, None, Some, rules}
use Rattle.reading.specs.Accepts.{at}
use Rattle.reader.specs.Pieces.{piece_at, piece_tokens}
use Rattle.reader.specs.State.{expecting, at_rest}
use Rattle.reader.specs.Fields.{held_of}
use Rattle.reader.proofs.Sound.{sound_went}
use Rattle.reader.proofs.Leaves.{sole}
use Rattle.reader.proofs.machine.Machine.between.Goals as goal

pub invariant_of-self-in-Sole : goal.invariant_of-self-in-Sole
invariant_of-self-in-Sole g c =
    let r = g.L.Language.rules in
    let b = c.args.byte in
    let p = expecting c.args.expects c.args.self.now.place in
    let q = expecting c.behind-self-inside.result (held_of (record c.self.inside { brackets = c.go.new.brackets })).place in
    sound_went r (at p None []) b (record { state = at q None []; ended = (b ∷ []) ∷ []; given = piece_tokens r c.in_ok-piece-in-Sole.piece (b ∷ []) }) c.requires.sound (search rules)

pub returns-in_ok-go-in-Sole : goal.returns-in_ok-go-in-Sole
returns-in_ok-go-in-Sole g c =
    let r = g.L.Language.rules in
    let b = c.args.byte in
    let p = expecting c.args.expects c.args.self.now.place in
    let k = c.in_ok-piece-in-Sole.piece in
    let piece : piece_at r p b ≡ Some k = search rules in
    let went = sole r p b k (reverse c.go.new.brackets.items) (search rules) piece (search rules) (search rules) in
    search rules

pub invariant_of-self-in-Starts : goal.invariant_of-self-in-Starts
invariant_of-self-in-Starts g c =
    let b = c.args.byte in
    let p = expecting c.args.expects c.args.self.now.place in
    let q = expecting c.args.expects (held_of c.self.inside).place in
    sound_went g.L.Language.rules (at p None []) b (at_rest (at q (Some c.in-Starts.inside) (b ∷ []))) c.requires.sound (search rules)
