use Rattle.std.proofs.Common.{◌∙◌, sym}
use Rattle.rtps_policies.specs.Segments as segments
use Rattle.rtps_policies.proofs.SegmentLemmas.{empty_is, held_many, held_more, held_refused, held_short, held_whole, none_held, nothing_left}
use Rattle.rtps_policies.proofs.name_pattern.leading_segment.Goals as goal

pub loop-part-init : goal.loop-part-init
loop-part-init c = none_held c.args.pattern.now c.args.name.now

pub loop-part-preserved : goal.loop-part-preserved
loop-part-preserved c =
    held_more c.args.pattern.now c.args.name.now c.loop-part.rest.now c.loop-part.left.now c.in-Some.behind.now c.in-Some-split_first.onward.now (segments.part_value c.in-Some.part) c.in-Some-split_first.octet.now
    c.loop-part.invariant c.in-Some.ensures (sym c.is_many.ensures ∙ c.if-is_many.false) c.in-Some-split_first.ensures.cases.0 (sym c.accepts.ensures ∙ c.if-not-accepts.false)

pub returns-then-is_many : goal.returns-then-is_many
returns-then-is_many c =
    held_many c.args.pattern.now c.args.name.now c.loop-part.rest.now c.loop-part.left.now c.in-Some.behind.now (segments.part_value c.in-Some.part)
    c.loop-part.invariant c.in-Some.ensures (sym c.is_many.ensures ∙ c.if-is_many.true)

pub returns-in_default-split_first : goal.returns-in_default-split_first
returns-in_default-split_first c =
    held_short c.args.pattern.now c.args.name.now c.loop-part.rest.now c.loop-part.left.now c.in-Some.behind.now (segments.part_value c.in-Some.part)
    c.loop-part.invariant c.in-Some.ensures (sym c.is_many.ensures ∙ c.if-is_many.false) (nothing_left c.loop-part.left.now c.in_default-split_first.ensures.cases)

pub returns-then-not-accepts : goal.returns-then-not-accepts
returns-then-not-accepts c =
    held_refused c.args.pattern.now c.args.name.now c.loop-part.rest.now c.loop-part.left.now c.in-Some.behind.now c.in-Some-split_first.onward.now (segments.part_value c.in-Some.part) c.in-Some-split_first.octet.now
    c.loop-part.invariant c.in-Some.ensures (sym c.is_many.ensures ∙ c.if-is_many.false) c.in-Some-split_first.ensures.cases.0 (sym c.accepts.ensures ∙ c.if-not-accepts.true)

pub returns-then-is_empty : goal.returns-then-is_empty
returns-then-is_empty c =
    held_whole c.args.pattern.now c.args.name.now c.loop-part.rest.now c.loop-part.left.now c.loop-part.invariant c.in_default.ensures
    ∙ empty_is c.loop-part.left.now ∙ sym c.is_empty.ensures ∙ c.if-is_empty.true

pub returns-else-is_empty : goal.returns-else-is_empty
returns-else-is_empty c =
    held_whole c.args.pattern.now c.args.name.now c.loop-part.rest.now c.loop-part.left.now c.loop-part.invariant c.in_default.ensures
    ∙ empty_is c.loop-part.left.now ∙ sym c.is_empty.ensures ∙ c.if-is_empty.false
