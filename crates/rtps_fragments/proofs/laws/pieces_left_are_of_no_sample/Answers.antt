use Rattle.rtps_fragments.proofs.PiecesLeft.{pieces_left_are_of_no_sample}
use Rattle.rtps_fragments.proofs.laws.pieces_left_are_of_no_sample.Goals as goal

pub returns : goal.returns
returns c = pieces_left_are_of_no_sample
