use Rattle.rtps_evidence.proofs.AloneLemmas.{not_held_is_alone}
use Rattle.rtps_evidence.proofs.laws.not_held_is_alone.Goals as goal

pub returns : goal.returns
returns c = not_held_is_alone
