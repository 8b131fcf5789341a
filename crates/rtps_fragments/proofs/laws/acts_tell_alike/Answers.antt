use Rattle.rtps_fragments.proofs.ActsTell.{acts_tell_alike}
use Rattle.rtps_fragments.proofs.laws.acts_tell_alike.Goals as goal

pub returns : goal.returns
returns c = acts_tell_alike
