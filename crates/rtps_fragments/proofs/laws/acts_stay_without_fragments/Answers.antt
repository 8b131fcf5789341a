use Rattle.rtps_fragments.proofs.WithoutFragments.{all_acts_stay}
use Rattle.rtps_fragments.proofs.laws.acts_stay_without_fragments.Goals as goal

pub returns : goal.returns
returns c = all_acts_stay
