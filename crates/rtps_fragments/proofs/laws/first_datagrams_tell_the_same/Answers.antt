use Rattle.rtps_fragments.proofs.HearingLemmas.{first_datagrams_tell_the_same}
use Rattle.rtps_fragments.proofs.laws.first_datagrams_tell_the_same.Goals as goal

pub returns : goal.returns
returns c = first_datagrams_tell_the_same
