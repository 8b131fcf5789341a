use Rattle.std.proofs.Common.{◌∙◌, arith}
use Rattle.rtps_policies.proofs.SegmentLemmas.{found_behind, many_behind, nothing_behind, nothing_left}
use Rattle.rtps_policies.proofs.name_pattern.later_segment.Goals as goal

pub returns-in-Many : goal.returns-in-Many
returns-in-Many c = (
  c.places.invariant.0 ∙ many_behind c.args.pattern.now c.places.left.now c.in-Many.behind.now c.in-Many.onward.now c.in-Many.ensures.0 c.in-Many.ensures.1 c.in-Many.ensures.2,
  c.in-Many.ensures.3,
  omega (arith, c.in-Many.ensures.4, c.places.invariant.1),
)

pub returns-in-Whole : goal.returns-in-Whole
returns-in-Whole c = c.places.invariant.0 ∙ found_behind c.args.pattern.now c.places.left.now c.in-Whole.ensures

pub returns-in_default : goal.returns-in_default
returns-in_default c =
    c.places.invariant.0 ∙ nothing_behind c.args.pattern.now c.places.left.now (nothing_left c.places.left.now c.in_default.ensures.cases) c.in-Failed.ensures
