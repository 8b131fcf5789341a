use Rattle.rtps_evidence.proofs.OneExplanation.{one_explanation}
use Rattle.rtps_evidence.proofs.laws.one_explanation.Goals as goal

pub returns : goal.returns
returns c = one_explanation c.has_no_two_verdicts.ensures c.one_map.ensures.unique
