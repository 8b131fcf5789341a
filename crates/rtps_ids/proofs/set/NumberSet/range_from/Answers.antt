use Rattle.std.proofs.Common.{◌+◌, subst, arith}
use Rattle.rtps_ids.specs.NumberSet as number_set
use Rattle.rtps_ids.specs.Ranges as ranges
use Rattle.rtps_ids.proofs.RangeBits.{range_at}
use Rattle.rtps_ids.proofs.set.NumberSet.range_from.Goals as goal

pub returns-clause-range : goal.returns-clause-range
returns-clause-range c =
    let first = c.first_bit-first.result in
    let opens = c.first_bit-first.ensures in
    let ends = c.first_bit.ensures in
    let lt = c.if-first-self.false in
    let inside : number_set.NumberSetValue = record { base = c.self.inside.base; count = c.self.inside.count; words = c.self.inside.words } in
    subst (λ s. ranges.IsRangeFrom s c.args.from (c.self.inside.base + first) (c.self.inside.base + c.min-past.result)) c.self.view_is
    (range_at inside c.args.from c.saturating_sub-start.result first c.first_bit.result c.min-past.result c.self.invariant.few c.saturating_sub-start.ensures
    opens.onward lt (opens.found (let few = c.self.invariant.few in omega arith)) opens.passed
    ends.onward ends.found ends.passed c.min-past.ensures)
