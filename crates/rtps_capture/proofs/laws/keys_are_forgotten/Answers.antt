use Rattle.rtps_capture.proofs.ForgettingLemmas.{keys_few, keys_remembered}
use Rattle.rtps_capture.proofs.laws.keys_are_forgotten.Goals as goal

pub returns : goal.returns
returns c = record { remembered = keys_remembered; few = keys_few }
