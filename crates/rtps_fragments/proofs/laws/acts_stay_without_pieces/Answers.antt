use Rattle.rtps_fragments.proofs.ActsTell.{acts_stay_without_pieces}
use Rattle.rtps_fragments.proofs.laws.acts_stay_without_pieces.Goals as goal

pub returns : goal.returns
returns c = acts_stay_without_pieces
