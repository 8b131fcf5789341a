use Rattle.rtps_discovery.proofs.Told.{endpoint_told, participant_told}
use Rattle.rtps_discovery.proofs.laws.told.Goals as goal

pub returns : goal.returns
returns c = record { participant = participant_told; endpoint = endpoint_told }
