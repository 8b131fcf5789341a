use Rattle.rtps_audit.proofs.FirstMissed.{open_is_first_missed}
use Rattle.rtps_audit.proofs.laws.open_is_first_missed.Goals as goal

pub returns : goal.returns
returns c = open_is_first_missed
