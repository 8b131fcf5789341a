use Rattle.std.proofs.Common.{◌∙◌, ◌&&◌, ◌||◌, ap, nat_le, nat_lt}
use Rattle.rtps_receiver.specs.Said as said
use Rattle.rtps_receiver.proofs.Offered.{below}
use Rattle.rtps_coverage.specs.Stretches as stretches
use Rattle.rtps_evidence.proofs.AmountLemmas.{below_more}
use Rattle.rtps_evidence.proofs.amount.push_below.Goals as goal

pub apart-preserved : goal.apart-preserved
apart-preserved c = λ n.
    c.in_ok-push.ensures n
    ∙ ap (λ b. b || (nat_le c.in-Some.range.start n && nat_lt n c.min-hi.result)) (c.apart.invariant n)
    ∙ ap (λ m. (stretches.stretches_have c.args.stretches.now.items n || (nat_lt n c.args.end && below (said.numbers_have c.args.numbers.now) c.apart.at n)) || (nat_le c.in-Some.range.start n && nat_lt n m)) c.min-hi.ensures
    ∙ below_more c.args.numbers.now c.args.end c.apart.at c.in-Some.range.start c.in-Some.range.end n (stretches.stretches_have c.args.stretches.now.items n) c.in-Some.ensures.range
