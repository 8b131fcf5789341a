use Rattle.std.proofs.Common.{subst, arith}
use Rattle.rtps_coverage.specs.Ranges as ranges
use Rattle.rtps_coverage.specs.Leaves as leaves_spec
use Rattle.rtps_coverage.specs.MergedRanges as merged_ranges
use Rattle.rtps_coverage.proofs.LeavesLemmas.{end_outside, in_one, one_bounded}
use Rattle.rtps_coverage.proofs.merged_ranges.MergedRanges.end_of.Goals as goal

pub returns : goal.returns
returns c =
    let all = merged_ranges.ranges_of c.args.self.now in
    let apart = c.args.self.now.kept.apart in
    let range = c.in_ok-range_with.field-0 in
    let one = subst (λ l. ranges.IsRangeWith (leaves_spec.ranges_in l) c.args.n range) c.deref.ensures.value c.in_ok-range_with.ensures in
    let from = one.from in
    let to = one.to in (
      to,
      record {
        onward = omega arith;
        in_range = one_bounded all c.args.n range apart one;
        outside = end_outside all c.args.n range apart one;
        between = λ m a b. in_one all c.args.n m range one (omega arith) b;
      },
    )
