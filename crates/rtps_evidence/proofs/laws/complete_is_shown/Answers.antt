use Rattle.rtps_evidence.proofs.Shown.{complete_is_shown}
use Rattle.rtps_evidence.proofs.laws.complete_is_shown.Goals as goal

pub returns : goal.returns
returns c = complete_is_shown
