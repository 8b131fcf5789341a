use Rattle.rtps_fragments.proofs.Announced.{built_in_samples_announce}
use Rattle.rtps_fragments.proofs.laws.built_in_samples_announce.Goals as goal

pub returns : goal.returns
returns c = built_in_samples_announce
