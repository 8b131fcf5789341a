use Rattle.std.proofs.lemmas.Grind.{common_steps}
use Rattle.std.proofs.lemmas.Bool.Decides.{nat_tests}
use Rattle.std.proofs.Common.{arith}
use Rattle.rtps_coverage.specs.Stretches as stretches
use Rattle.rtps_evidence.proofs.FirstNumbersLemmas.{all_kept, next_kept, none_found, none_kept}
use Rattle.rtps_evidence.proofs.first_numbers.FirstNumbers.inside.Goals as goal

pub numbers-init : goal.numbers-init
numbers-init c = grind (arith, nat_tests, common_steps, none_kept, none_found)

pub numbers-preserved : goal.numbers-preserved
numbers-preserved c = grind (arith, nat_tests, common_steps, next_kept)

pub returns-else-first-lt10 : goal.returns-else-first-lt10
returns-else-first-lt10 c =
    let full = c.if-first-lt10.false in
    all_kept (stretches.stretches_have c.args.stretches.now) c.args.from c.args.end c.numbers.at c.numbers.first c.numbers.invariant
    (λ low room. omega arith)

pub returns-after-numbers : goal.returns-after-numbers
returns-after-numbers c =
    let past = c.numbers-test.false in
    all_kept (stretches.stretches_have c.args.stretches.now) c.args.from c.args.end c.numbers.at c.numbers.first c.numbers.invariant
    (λ low room. omega arith)
