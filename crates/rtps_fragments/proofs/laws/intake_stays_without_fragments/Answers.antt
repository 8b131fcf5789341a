use Rattle.rtps_fragments.proofs.WithoutFragments.{intake_stays}
use Rattle.rtps_fragments.proofs.laws.intake_stays_without_fragments.Goals as goal

pub returns : goal.returns
returns c = intake_stays
