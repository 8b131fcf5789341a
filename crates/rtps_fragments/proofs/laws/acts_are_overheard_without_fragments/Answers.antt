use Rattle.rtps_fragments.proofs.PlainPairs.{overheard_without_fragments}
use Rattle.rtps_fragments.proofs.laws.acts_are_overheard_without_fragments.Goals as goal

pub returns : goal.returns
returns c = overheard_without_fragments
