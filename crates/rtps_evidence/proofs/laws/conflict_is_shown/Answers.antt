use Rattle.rtps_evidence.proofs.Shown.{conflict_is_shown}
use Rattle.rtps_evidence.proofs.laws.conflict_is_shown.Goals as goal

pub returns : goal.returns
returns c = conflict_is_shown
