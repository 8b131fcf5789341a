use Rattle.rtps_evidence.proofs.Shown.{open_is_shown}
use Rattle.rtps_evidence.proofs.laws.open_is_shown.Goals as goal

pub returns : goal.returns
returns c = open_is_shown
