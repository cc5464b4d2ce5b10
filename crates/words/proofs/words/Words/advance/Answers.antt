use Rattle.std.proofs.Common.{◌+◌, ◌<◌, Some, Ok, ap, subst, ◌∙◌, rules}
use Rattle.words.specs.Handed.{Handed}
use Rattle.words.specs.Left.{Telling, left_by, unread_by, waiting}
use Rattle.words.specs.Fields.{waits}
use Rattle.words.proofs.Lefts.{first, none, hands_word, hands_none, taken, breaks, fewer}
use Rattle.words.proofs.words.Words.advance.Goals as goal

pub slice_bounds-part-end : goal.slice_bounds-part-end
slice_bounds-part-end g c =
    let f = first g.L.Language.rules c.self.inside c.ended.result c.in-Some-ended.ended c.place_of-place.result c.self.invariant c.in_default.is c.ended.ensures.told c.in-Some-ended.is c.place_of-place.ensures in
    let within = f.within in
    search rules

pub returns-in-Some-ended-clause-advanced : goal.returns-in-Some-ended-clause-advanced
returns-in-Some-ended-clause-advanced g c =
    let r = g.L.Language.rules in
    let v = c.self.inside in
    let e = c.in-Some-ended.ended in
    let f = first r v c.ended.result e c.place_of-place.result c.self.invariant c.in_default.is c.ended.ensures.told c.in-Some-ended.is c.place_of-place.ensures in
    let w = c.word_of.result in
    subst (λ (x : Telling). Handed r x.left (left_by r v.fault v.text.now v.taken v.reader.state (waiting r v.taken v.reader.ended (v.handed + 1))) (Some (Ok w))) c.self.view_is
    (hands_word r v.fault v.text.now v.taken v.reader.state v.reader.ended v.handed e c.place_of-place.result w c.in_default.is f c.word_of.ensures.kind c.word_of.ensures.placed)

pub returns-then-place-self-clause-advanced : goal.returns-then-place-self-clause-advanced
returns-then-place-self-clause-advanced g c =
    let r = g.L.Language.rules in
    let v = c.self.inside in
    let h = hands_none r v.fault v.text.now v.taken v.reader.state (waits r v) c.in_default.is c.if-place-self.true (none r v c.ended.result c.self.invariant c.in_default.is c.ended.ensures.told c.in_default-ended.is) in
    search rules

pub invariant_of-self-in-Ok : goal.invariant_of-self-in-Ok
invariant_of-self-in-Ok g c =
    let r = g.L.Language.rules in
    let v = c.self.inside in
    let empty = none r v c.ended.result c.self.invariant c.in_default.is c.ended.ensures.told c.in_default-ended.is in
    (taken r g.L.Language.lawful v.fault v.text.now v.taken v.reader.state (waits r v) c.take.new.reader c.in_default.is c.if-place-self.false empty c.self.invariant c.in-Ok.ensures).sound

pub returns-in-Ok-clause-advanced : goal.returns-in-Ok-clause-advanced
returns-in-Ok-clause-advanced g c =
    let r = g.L.Language.rules in
    let v = c.self.inside in
    let empty = none r v c.ended.result c.self.invariant c.in_default.is c.ended.ensures.told c.in_default-ended.is in
    let t = taken r g.L.Language.lawful v.fault v.text.now v.taken v.reader.state (waits r v) c.take.new.reader c.in_default.is c.if-place-self.false empty c.self.invariant c.in-Ok.ensures in
    let less = fewer v.fault v.text.now v.taken c.in_default.is c.if-place-self.false in
    (t.left ∙ ap (λ (x : Telling). x.left) c.self.view_is, subst (λ (x : Telling). unread_by v.fault v.text.now (v.taken + 1) < x.unread) c.self.view_is less.0)

pub returns-in-Err-clause-advanced : goal.returns-in-Err-clause-advanced
returns-in-Err-clause-advanced g c =
    let r = g.L.Language.rules in
    let v = c.self.inside in
    let empty = none r v c.ended.result c.self.invariant c.in_default.is c.ended.ensures.told c.in_default-ended.is in
    let w = c.take.new.reader in
    let left = breaks r v.fault v.text.now v.taken v.reader.state w.state (waits r v) (waiting r v.taken w.ended v.handed) w c.in-Err.refusal c.in_default.is c.if-place-self.false empty c.in-Err.ensures in
    let less = fewer v.fault v.text.now v.taken c.in_default.is c.if-place-self.false in
    (left ∙ ap (λ (x : Telling). x.left) c.self.view_is, subst (λ (x : Telling). 0 < x.unread) c.self.view_is less.1)
