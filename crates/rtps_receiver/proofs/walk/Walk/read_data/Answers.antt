use Rattle.std.proofs.Common.{◌≡◌, ap, map, subst, sym}
use Rattle.std.specs.Prelude.{OnOk}
use Rattle.rtps_receiver.specs.Acts as acts_spec
use Rattle.rtps_receiver.specs.Values as values
use Rattle.rtps_receiver.proofs.ActSteps.{acts_of-read, acts_of-refused}
use Rattle.rtps_receiver.proofs.walk.Walk.read_data.Goals as goal

pub returns-in-Ok : goal.returns-in-Ok
returns-in-Ok c =
    subst (λ acts. OnOk c.push_data.result (map values.spoken_value c.push_data.new.acts.items ≡ acts_spec.data_among acts)) (sym (acts_of-read _ _ _ _ c.in-Ok.ensures.0 c.at_start.ensures)) c.push_data.ensures

pub returns-in-Err : goal.returns-in-Err
returns-in-Err c = rw c.truncate.ensures.items (sym (ap acts_spec.data_among (acts_of-refused _ _ c.in-Err.ensures.0)))
