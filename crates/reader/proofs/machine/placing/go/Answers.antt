use Rattle.std.proofs.Common.{reverse, length, refl, ap, arith}
use Rattle.std.proofs.lemmas.List.{length-reverse, length-append}
use Rattle.rules.specs.declared.place.Bracket.{Bracket}
use Rattle.rules.specs.declared.place.Expects.TheVariants.{After}
use Rattle.reader.proofs.Placing.{low_few, popped}
use Rattle.reader.proofs.machine.placing.go.Goals as goal

pub returns-in-Within : goal.returns-in-Within
returns-in-Within c =
    let ks = c.args.brackets.now.items in
    let n = length-reverse ks in
    rw c.in-Within.is (refl, low_few c.in-Within.field-0 (reverse ks) (omega arith))

pub returns-in-Closes : goal.returns-in-Closes
returns-in-Closes c =
    let ks = c.args.brackets.now.items in
    let js = c.pop.new.self.items in
    let same = popped ks js c.pop.result c.pop.ensures.items c.pop.ensures.rest in
    let n = length-reverse js in
    let m = ap length c.pop.ensures.items in
    rw c.in-Closes.is (same, rw (← same) (low_few After (reverse js) (omega (arith, length-append {A = Bracket}))))
