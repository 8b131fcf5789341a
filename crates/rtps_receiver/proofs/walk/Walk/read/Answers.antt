use Rattle.std.proofs.Common.{◌≡◌, map, subst, sym}
use Rattle.std.specs.Prelude.{OnOk}
use Rattle.rtps_receiver.specs.Values as values
use Rattle.rtps_receiver.proofs.ActSteps.{acts_of-read, acts_of-refused}
use Rattle.rtps_receiver.proofs.walk.Walk.read.Goals as goal

pub returns-in-Ok-clause-acts : goal.returns-in-Ok-clause-acts
returns-in-Ok-clause-acts c =
    subst (λ acts. OnOk c.push_acts.result (map values.spoken_value c.push_acts.new.acts.items ≡ acts)) (sym (acts_of-read _ _ _ _ c.in-Ok.ensures.0 c.at_start.ensures)) c.push_acts.ensures.acts

pub returns-in-Err-clause-acts : goal.returns-in-Err-clause-acts
returns-in-Err-clause-acts c = rw c.clear.ensures.items (sym (acts_of-refused _ _ c.in-Err.ensures.0))
