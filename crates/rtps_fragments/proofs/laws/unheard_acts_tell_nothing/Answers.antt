use Rattle.rtps_fragments.proofs.SamplesAlone.{unheard_acts_tell_nothing}
use Rattle.rtps_fragments.proofs.laws.unheard_acts_tell_nothing.Goals as goal

pub returns : goal.returns
returns c = unheard_acts_tell_nothing
