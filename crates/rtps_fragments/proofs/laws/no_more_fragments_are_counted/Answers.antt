use Rattle.rtps_fragments.proofs.FragmentCounts.{no_more}
use Rattle.rtps_fragments.proofs.laws.no_more_fragments_are_counted.Goals as goal

pub returns : goal.returns
returns c = no_more
