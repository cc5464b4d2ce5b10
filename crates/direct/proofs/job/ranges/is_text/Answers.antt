use Rattle.std.proofs.Common.{leb, arith, rules, tests}
use Rattle.std.proofs.lemmas.Bool.Decides.{nat_tests}
use Rattle.std.proofs.lemmas.Iterator.{YieldsList-from_slice}
use Rattle.std.proofs.lemmas.Iterator.Search.{all_from_yields_List}
use Rattle.direct.proofs.job.ranges.is_text.Goals as goal

pub returns-then-bytes-le255 : goal.returns-then-bytes-le255
returns-then-bytes-le255 c =
    let all = all_from_yields_List (leb 32) _ _ c.all.result c.all.ensures.ran (YieldsList-from_slice c.args.bytes.now cc) (λ x b q k. search (rules, tests)) in
    grind (arith, nat_tests, tests)
