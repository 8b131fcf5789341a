use Rattle.rtps_evidence.proofs.OutcomeLemmas.{unsent_is_not_held}
use Rattle.rtps_evidence.proofs.laws.unsent_is_not_held.Goals as goal

pub returns : goal.returns
returns c = unsent_is_not_held
