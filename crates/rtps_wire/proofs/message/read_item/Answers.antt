use Rattle.std.proofs.Common.{◌∙◌}
use Rattle.rtps_wire.proofs.Submessages.{IsTakenApart, item_of_parts, taken_apart}
use Rattle.rtps_wire.proofs.message.read_item.Goals as goal
use Rattle.rtps_wire.proofs.message.read_item.Goals.{After-read_body}

apart : (c : After-read_body) → IsTakenApart c.args.rest.now c.split_at.result.0.now c.extent-size.result
apart c =
    taken_apart _ _ _ _ _ c.if-rest-lt-SIZE.false c.rest_at-behind.ensures c.declared_by-declared.ensures c.if-declared-behind.false
    c.extent-size.ensures c.split_at.ensures.front

pub returns-in-Ok-clause-item : goal.returns-in-Ok-clause-item
returns-in-Ok-clause-item c =
    let parts = apart (goal.at.returns-in-Ok-clause-item c).After-read_body in
    (parts.fault ∙ c.in-Ok.ensures.0, item_of_parts _ _ _ _ _ c.order_of-order.ensures parts.octets c.in-Ok.ensures.1)

pub returns-in-Err-clause-item : goal.returns-in-Err-clause-item
returns-in-Err-clause-item c =
    let parts = apart (goal.at.returns-in-Err-clause-item c).After-read_body in
    parts.fault ∙ c.in-Err.ensures
