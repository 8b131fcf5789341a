use Rattle.std.proofs.Common.{◌∙◌, ◌&&◌, ◌||◌, ap, arith, nat_le, nat_lt}
use Rattle.rtps_coverage.specs.Stretches as stretches
use Rattle.rtps_evidence.proofs.AmountLemmas.{from_more}
use Rattle.rtps_evidence.proofs.amount.push_numbers.Goals as goal

pub apart-preserved : goal.apart-preserved
apart-preserved c =
    let range = c.in-Some.ensures.range in
    let so_far = c.apart.invariant in
    record {
      onward = (let first = so_far.onward in let onward = range.onward in let some = range.some in omega arith);
      numbers = λ n.
          c.in_ok-push.ensures n ∙ ap (λ b. b || (nat_le c.in-Some.range.start n && nat_lt n c.in-Some.range.end)) (so_far.numbers n)
          ∙ from_more c.args.numbers.now c.args.from c.apart.at c.in-Some.range.start c.in-Some.range.end n (stretches.stretches_have c.args.stretches.now.items n) so_far.onward range;
    }
