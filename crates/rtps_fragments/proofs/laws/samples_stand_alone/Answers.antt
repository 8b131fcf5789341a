use Rattle.rtps_fragments.proofs.SamplesAlone.{samples_stand_alone}
use Rattle.rtps_fragments.proofs.laws.samples_stand_alone.Goals as goal

pub returns : goal.returns
returns c = samples_stand_alone
