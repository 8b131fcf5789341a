use Rattle.rtps_fragments.proofs.PiecesLeft.{verdict_stays}
use Rattle.rtps_fragments.proofs.laws.verdict_stays_without_pieces.Goals as goal

pub returns : goal.returns
returns c = verdict_stays c.fragment_verdict_of_acts.ensures c.acts_stay_without_pieces.ensures
