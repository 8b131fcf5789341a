use Rattle.std.proofs.Common.{length, ◌-◌, arith}
use Rattle.rtps_coverage.specs.Ranges as ranges
use Rattle.rtps_coverage.proofs.RangesLemmas.{all_parted, parted_at}
use Rattle.rtps_coverage.proofs.ranges.place_for.Goals as goal

pub returns-then-last-number : goal.returns-then-last-number
returns-then-last-number c =
    let some = c.if-count-eq0.false in
    all_parted c.args.number c.args.ranges.now ranges.no_range c.requires (omega arith) c.if-last-number.true

pub returns-then-last-number-2 : goal.returns-then-last-number-2
returns-then-last-number-2 c =
    let some = c.if-count-eq0.false in
    parted_at c.args.number (length c.args.ranges.now - 1) c.args.ranges.now ranges.no_range c.requires (omega arith) c.if-last-number-2.true c.if-last-number.false
