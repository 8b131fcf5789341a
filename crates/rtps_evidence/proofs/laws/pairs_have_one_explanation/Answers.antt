use Rattle.rtps_evidence.proofs.OneExplanation.{one_pairs}
use Rattle.rtps_evidence.proofs.laws.pairs_have_one_explanation.Goals as goal

pub returns : goal.returns
returns c = one_pairs c.has_no_two_verdicts.ensures c.one_map.ensures.unique
