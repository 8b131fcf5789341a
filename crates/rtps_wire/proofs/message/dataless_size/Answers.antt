use Rattle.std.proofs.Common.{◌+◌, ap, arith, length, sym, ◌∙◌}
use Rattle.std.proofs.lemmas.List.{length-drop}
use Rattle.rtps_wire.proofs.Dataless.{at_parts, not_cut, not_overrun}
use Rattle.rtps_wire.proofs.Submessages.{IsTakenApart, taken_apart}
use Rattle.rtps_wire.proofs.message.dataless_size.Goals as goal
use Rattle.rtps_wire.proofs.message.dataless_size.Goals.{After-is_dataless}

pub returns-then-rest-lt-SIZE : goal.returns-then-rest-lt-SIZE
returns-then-rest-lt-SIZE c = not_cut c.args.rest.now c.if-rest-lt-SIZE.true

pub returns-then-declared-behind : goal.returns-then-declared-behind
returns-then-declared-behind c =
    not_overrun c.args.rest.now c.if-rest-lt-SIZE.false (rw (← c.rest_at-behind.ensures, ← c.declared_by-declared.ensures) c.if-declared-behind.true)

apart : (c : After-is_dataless) → IsTakenApart c.args.rest.now c.split_at.result.0.now c.extent-size.result
apart c =
    taken_apart _ _ _ _ _ c.if-rest-lt-SIZE.false c.rest_at-behind.ensures c.declared_by-declared.ensures c.if-declared-behind.false
    c.extent-size.ensures c.split_at.ensures.front

pub returns-then-is_dataless : goal.returns-then-is_dataless
returns-then-is_dataless c =
    let parts = apart (goal.at.returns-then-is_dataless c).After-is_dataless in (
      at_parts _ _ _ parts.fault parts.octets ∙ sym c.if-is_dataless.ensures,
      ap (λ n. 4 + n) parts.size,
      omega (arith, length-drop 4 c.args.rest.now, ap length c.rest_at-behind.ensures),
    )

pub returns-else-is_dataless : goal.returns-else-is_dataless
returns-else-is_dataless c =
    let parts = apart (goal.at.returns-else-is_dataless c).After-is_dataless in
    at_parts _ _ _ parts.fault parts.octets ∙ sym c.if-is_dataless.ensures
