use Rattle.rtps_known.proofs.LawLemmas.{unacknowledged}
use Rattle.rtps_known.proofs.laws.lacking_is_unacknowledged.Goals as goal

pub returns : goal.returns
returns c = λ acts prefix end guid has. unacknowledged acts prefix end guid has
