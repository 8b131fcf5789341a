use Rattle.rtps_policies.proofs.SuitLemmas.{suits_decides}
use Rattle.rtps_policies.proofs.laws.policies_suit_as_tested.Goals as goal

pub returns : goal.returns
returns c = suits_decides
