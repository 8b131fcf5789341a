use Rattle.rtps_fragments.proofs.ActsTell.{first_datagrams_tell_alike}
use Rattle.rtps_fragments.proofs.laws.first_datagrams_tell_alike.Goals as goal

pub returns : goal.returns
returns c = first_datagrams_tell_alike
