use Rattle.std.proofs.Common.{◌∙◌, ap, arith}
use Rattle.rtps_receiver.specs.Acts as acts
use Rattle.rtps_receiver.proofs.ActSteps.{acts_among-then, acts_left-opened, acts_of-refused, few_left}
use Rattle.rtps_receiver.proofs.receiver.Acts.open.Goals as goal

pub returns-in-Ok : goal.returns-in-Ok
returns-in-Ok c =
    let left = acts_left-opened _ _ _ _ c.in-Ok.ensures.0 c.at_start-state.ensures in
    (left, ap acts.acts_among left ∙ acts_among-then _ _, omega (arith, c.in-Ok.ensures.1, few_left c.at_start-state.result c.in-Ok.items))

pub returns-in-Err : goal.returns-in-Err
returns-in-Err c = (c.in-Err.ensures.0, c.in-Err.ensures.1, acts_of-refused _ _ c.in-Err.ensures.0)
