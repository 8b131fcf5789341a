use Rattle.rtps_fragments.proofs.FragmentCounts.{counted}
use Rattle.rtps_fragments.proofs.laws.fragments_are_counted.Goals as goal

pub returns : goal.returns
returns c = counted
