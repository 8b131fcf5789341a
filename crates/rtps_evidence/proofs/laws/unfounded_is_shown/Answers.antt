use Rattle.rtps_evidence.proofs.Shown.{unfounded_is_shown}
use Rattle.rtps_evidence.proofs.laws.unfounded_is_shown.Goals as goal

pub returns : goal.returns
returns c = unfounded_is_shown
