use Rattle.std.proofs.Common.{◌≡◌, ◌<◌, ◌+◌, ◌-◌, Some, arith, ap, drop, length, refl, sym, ◌∙◌}
use Rattle.rtps_wire.specs.Message as message
use Rattle.rtps_wire.proofs.Skips.{none_cut, none_overrun, none_skipped, one_skipped}
use Rattle.rtps_wire.specs.Reading as reading
use Rattle.rtps_wire.specs.Skipped as skipped
use Rattle.rtps_wire.proofs.message.Items.take_skipped.Goals as goal
use Rattle.rtps_wire.proofs.message.Items.take_skipped.Goals.{After-rest_at-self-inside}

pub returns-then-self-lt-SIZE-clause-id : goal.returns-then-self-lt-SIZE-clause-id
returns-then-self-lt-SIZE-clause-id c = rw (← c.self.view_is) (sym (none_cut c.self.inside.rest.now c.self.inside.at c.if-self-lt-SIZE.true))

pub returns-then-is_read-clause-id : goal.returns-then-is_read-clause-id
returns-then-is_read-clause-id c =
    rw (← c.self.view_is) (sym (none_skipped c.self.inside.rest.now c.self.inside.at (omega (arith, c.if-self-lt-SIZE.false)) (sym c.if-is_read.ensures)))

pub returns-then-declared-left-clause-id : goal.returns-then-declared-left-clause-id
returns-then-declared-left-clause-id c =
    let beyond : length c.self.inside.rest.now < 4 + message.octets_to_next_header c.self.inside.rest.now = omega (arith, c.if-declared-left.true, c.declared_by-declared.ensures) in
    rw (← c.self.view_is) (sym (none_overrun c.self.inside.rest.now c.self.inside.at c.if-self-lt-SIZE.false beyond))

taken : (c : After-rest_at-self-inside) → let rest = c.self.inside.rest.now in let at = c.self.inside.at in
    (skipped.skipped_next (reading.outcomes rest at) ≡ Some (message.id_of rest)) × (reading.outcomes c.rest_at-self-inside.result.now (at + (4 + c.extent-size.result)) ≡ drop 1 (reading.outcomes rest at))
taken c =
    let rest = c.self.inside.rest.now in
    let left = length rest - 4 in
    let declared = c.declared_by-declared.ensures in
    let size = c.extent-size.ensures ∙ ap (λ d. message.extent_of (message.id_of rest) d left) declared in
    one_skipped rest _ c.self.inside.at _ left _ c.if-self-lt-SIZE.false (sym c.if-is_read.ensures) (omega (arith, c.if-self-lt-SIZE.false))
    (omega (arith, declared, c.if-declared-left.false)) size c.rest_at-self-inside.ensures refl

pub returns-clause-id : goal.returns-clause-id
returns-clause-id c = rw (← c.self.view_is) (sym (taken (goal.at.returns-clause-id c).After-rest_at-self-inside).0)

pub returns-clause-left : goal.returns-clause-left
returns-clause-left c = rw (← c.self.view_is) (taken (goal.at.returns-clause-left c).After-rest_at-self-inside).1
