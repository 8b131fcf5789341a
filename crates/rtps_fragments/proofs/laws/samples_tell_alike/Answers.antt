use Rattle.rtps_fragments.proofs.SamplesTell.{samples_tell_alike}
use Rattle.rtps_fragments.proofs.laws.samples_tell_alike.Goals as goal

pub returns : goal.returns
returns c = samples_tell_alike
