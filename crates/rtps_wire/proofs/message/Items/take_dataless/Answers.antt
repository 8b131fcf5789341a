use Rattle.std.proofs.Common.{refl, sym}
use Rattle.rtps_wire.proofs.Dataless.{none_taken, one_taken}
use Rattle.rtps_wire.proofs.message.Items.take_dataless.Goals as goal

pub returns-in_default-clause-taken : goal.returns-in_default-clause-taken
returns-in_default-clause-taken c = rw (← c.self.view_is) (sym (none_taken c.self.inside.rest.now c.self.inside.at c.in_default.ensures))

pub returns-clause-taken : goal.returns-clause-taken
returns-clause-taken c =
    let is = c.in-Some.ensures in
    rw (← c.self.view_is) (sym (one_taken c.self.inside.rest.now _ c.self.inside.at _ _ is.0 is.1 is.2 c.rest_at-self-inside.ensures refl).0)

pub returns-clause-left : goal.returns-clause-left
returns-clause-left c =
    let is = c.in-Some.ensures in
    rw (← c.self.view_is) (one_taken c.self.inside.rest.now _ c.self.inside.at _ _ is.0 is.1 is.2 c.rest_at-self-inside.ensures refl).1
