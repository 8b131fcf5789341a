use Rattle.rtps_receiver.proofs.ItemLaws.{state_stands}
use Rattle.rtps_receiver.proofs.laws.the_state_is_what_stands.Goals as goal

pub returns : goal.returns
returns c = state_stands
