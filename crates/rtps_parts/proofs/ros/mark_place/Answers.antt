use Rattle.std.proofs.Common.{◌≡◌, ◌∙◌, ◌<◌, ◌≤◌, ◌-◌, ap, arith, drop, length, nat_eq, sym, true}
use Rattle.std.proofs.lemmas.Grind.{common_steps}
use Rattle.std.proofs.lemmas.List.{take_all}
use Rattle.std.specs.List.{starts_with}
use Rattle.rtps_parts.specs.RosNames as ros_names
use Rattle.rtps_parts.proofs.RosLemmas.{mark_here, mark_nowhere}
use Rattle.rtps_parts.proofs.ros.mark_place.Goals as goal

pub returns-then-starts_with-clause-place : goal.returns-then-starts_with-clause-place
returns-then-starts_with-clause-place c =
    let kind = c.args.kind.now in
    let place = c.loop-place.place in
    let short : length (drop place kind) ≤ length kind - place = grind (arith, common_steps) in
    let begins : starts_with nat_eq (drop place kind) ros_names.mark ≡ true =
    ap (λ octets. starts_with nat_eq octets ros_names.mark) (sym (take_all (length kind - place) (drop place kind) short)) ∙ sym c.starts_with.ensures.value ∙ c.if-starts_with.true in
    sym (mark_here c.args.kind.now c.loop-place.place c.loop-place-test.true c.loop-place.invariant begins)

pub returns-clause-place : goal.returns-clause-place
returns-clause-place c = sym (mark_nowhere c.args.kind.now (λ before less. c.loop-place.invariant before (omega arith)))

pub returns-clause-within : goal.returns-clause-within
returns-clause-within c = mark_nowhere c.args.kind.now (λ before less. c.loop-place.invariant before (omega arith))
