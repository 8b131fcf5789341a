use Rattle.rtps_fragments.proofs.PlainPairs.{pairs_are_heard_without_fragments}
use Rattle.rtps_fragments.proofs.laws.pairs_are_heard_without_fragments.Goals as goal

pub returns : goal.returns
returns c = pairs_are_heard_without_fragments
