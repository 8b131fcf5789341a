use Rattle.rtps_audit.proofs.FirstMissed.{conflict_is_first}
use Rattle.rtps_audit.proofs.laws.conflict_is_first.Goals as goal

pub returns : goal.returns
returns c = conflict_is_first
