use Rattle.rtps_evidence.proofs.OutcomeCounts.{arrived_is_all_that_changes}
use Rattle.rtps_evidence.proofs.laws.arrived_is_all_that_changes.Goals as goal

pub returns : goal.returns
returns c = arrived_is_all_that_changes
