use Rattle.rtps_audit.proofs.Bounded.{recordings_are_bounded}
use Rattle.rtps_audit.proofs.laws.recordings_are_bounded.Goals as goal

pub returns : goal.returns
returns c = recordings_are_bounded
