use Rattle.std.proofs.Common.{◌∙◌, sym}
use Rattle.rtps_policies.specs.Segments as segments
use Rattle.rtps_policies.proofs.SegmentLemmas.{counted_all, counted_many, counted_more, none_counted}
use Rattle.rtps_policies.proofs.name_pattern.fixed_count.Goals as goal

pub loop-part-init : goal.loop-part-init
loop-part-init c = none_counted c.args.pattern.now

pub loop-part-preserved : goal.loop-part-preserved
loop-part-preserved c =
    counted_more c.args.pattern.now c.loop-part.rest.now c.in-Some.behind.now (segments.part_value c.in-Some.part) c.loop-part.count
    c.loop-part.invariant c.in-Some.ensures (sym c.is_many.ensures ∙ c.if-is_many.false)

pub returns-then-is_many : goal.returns-then-is_many
returns-then-is_many c =
    counted_many c.args.pattern.now c.loop-part.rest.now c.in-Some.behind.now (segments.part_value c.in-Some.part) c.loop-part.count
    c.loop-part.invariant c.in-Some.ensures (sym c.is_many.ensures ∙ c.if-is_many.true)

pub returns : goal.returns
returns c = counted_all c.args.pattern.now c.loop-part.rest.now c.loop-part.count c.loop-part.invariant c.in_default.ensures
