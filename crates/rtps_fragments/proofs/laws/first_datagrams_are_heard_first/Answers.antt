use Rattle.rtps_fragments.proofs.HearingLemmas.{first_datagrams_are_heard_first}
use Rattle.rtps_fragments.proofs.laws.first_datagrams_are_heard_first.Goals as goal

pub returns : goal.returns
returns c = first_datagrams_are_heard_first
