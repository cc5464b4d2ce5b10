use Rattle.std.proofs.Common.{◌≡◌, true, ◌&&◌, [], ◌∷◌, ◌++◌, refl, rules, ap, subst, Some}
use Rattle.rules.specs.declared.word.Turn.TheVariants.{Closes as ClosesWord, Never as NeverTurns}
use Rattle.rules.specs.Machine.{short}
use Rattle.reader.specs.State.{Held, Sound, state_of, at_rest}
use Rattle.reader.specs.Fields.{held_of}
use Rattle.reader.proofs.Sound.{sound_went}
use Rattle.reader.proofs.Leaves.{leaves, closes, went_behind, refused_behind}
use Rattle.reader.proofs.machine.Machine.within.Goals as goal

pub invariant_of-self-in-Stays : goal.invariant_of-self-in-Stays
invariant_of-self-in-Stays g c =
    let r = g.L.Language.rules in
    let m = record c.self.inside { inside = Some c.in-Stays.next; word = c.collect.new.self } in
    sound_went r (state_of c.args.self.now) c.args.byte (at_rest (state_of (held_of m))) (subst (λ (x : Held). Sound r (state_of x)) c.self.view_is c.self.invariant) (search rules)

pub invariant_of-self-in-Closes : goal.invariant_of-self-in-Closes
invariant_of-self-in-Closes g c =
    leaves g.L.Language.rules g.L.Language.lawful c.args.self.now c.args.inside c.around-piece.result c.behind-self-inside.result (held_of c.self.inside).place c.around-piece.ensures c.behind-self-inside.ensures
    (ap (λ (x : Held). x.place) c.self.view_is)

pub returns-in_ok-collect-in-Closes : goal.returns-in_ok-collect-in-Closes
returns-in_ok-collect-in-Closes g c =
    let r = g.L.Language.rules in
    let h = c.args.self.now in
    let u = c.around-piece.ensures in
    let turn : r.turns c.args.inside h.bytes c.args.byte ≡ ClosesWord = search rules in
    let small : short (h.bytes ++ c.args.byte ∷ []) ≡ true = search rules in
    let w = closes r g.L.Language.lawful h.place c.args.inside h.bytes c.args.byte c.around-piece.result u.sound u.piece turn small in
    search rules

pub between-requires-clause-sound : goal.between-requires-clause-sound
between-requires-clause-sound g c =
    leaves g.L.Language.rules g.L.Language.lawful c.args.self.now c.args.inside c.around-piece-in-Never.result c.behind.result c.args.self.now.place c.around-piece-in-Never.ensures c.behind.ensures refl

pub returns-in-Err : goal.returns-in-Err
returns-in-Err g c =
    let r = g.L.Language.rules in
    let h = c.args.self.now in
    let u = c.around-piece-in-Never.ensures in
    let turn : r.turns c.args.inside h.bytes c.args.byte ≡ NeverTurns = search rules in
    let ends : (r.whole c.args.inside h.bytes && r.delimits c.args.byte) ≡ true = search rules in
    let small : short h.bytes ≡ true = search rules in
    let f = refused_behind r g.L.Language.lawful h.place c.args.inside h.bytes c.args.byte c.around-piece-in-Never.result c.behind.result u.sound u.piece c.behind.ensures turn ends small in
    search rules

pub returns-in-Ok : goal.returns-in-Ok
returns-in-Ok g c =
    let r = g.L.Language.rules in
    let h = c.args.self.now in
    let u = c.around-piece-in-Never.ensures in
    let b = c.in-Ok.ensures in
    let turn : r.turns c.args.inside h.bytes c.args.byte ≡ NeverTurns = search rules in
    let ends : (r.whole c.args.inside h.bytes && r.delimits c.args.byte) ≡ true = search rules in
    let small : short h.bytes ≡ true = search rules in
    let w = went_behind r g.L.Language.lawful h.place c.args.inside h.bytes c.args.byte c.around-piece-in-Never.result c.behind.result u.sound u.piece c.behind.ensures turn ends small (state_of c.between.new.self) c.between.new.own b.1 in
    search rules
