use Rattle.std.proofs.Common.{arith}
use Rattle.rtps_coverage.specs.Ranges as ranges
use Rattle.rtps_coverage.proofs.RangesLemmas.{past_at}
use Rattle.rtps_coverage.proofs.ranges.begun_at.Goals as goal

pub returns-then-number-range : goal.returns-then-number-range
returns-then-number-range c =
    let less = c.if-place-ranges.false in
    let within = c.requires.place in
    past_at c.args.number c.args.place c.args.ranges.now ranges.no_range c.requires.apart (omega arith) c.if-number-range.true
