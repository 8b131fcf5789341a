use Rattle.rtps_evidence.proofs.OutcomeLemmas.{outcomes_add_up}
use Rattle.rtps_evidence.proofs.laws.outcomes_add_up.Goals as goal

pub returns : goal.returns
returns c = outcomes_add_up
