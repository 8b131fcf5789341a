use Rattle.rtps_audit.proofs.FirstMissed.{held_stays_held}
use Rattle.rtps_audit.proofs.laws.held_stays_held.Goals as goal

pub returns : goal.returns
returns c = held_stays_held
