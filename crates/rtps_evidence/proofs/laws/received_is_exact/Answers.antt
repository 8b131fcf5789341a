use Rattle.rtps_evidence.proofs.ReceivedRuns.{received_is_exact}
use Rattle.rtps_evidence.proofs.laws.received_is_exact.Goals as goal

pub returns : goal.returns
returns c = received_is_exact
