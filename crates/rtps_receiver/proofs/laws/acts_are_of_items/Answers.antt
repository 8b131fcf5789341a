use Rattle.rtps_receiver.proofs.ItemLaws.{acts_are_of_items}
use Rattle.rtps_receiver.proofs.laws.acts_are_of_items.Goals as goal

pub returns : goal.returns
returns c = acts_are_of_items
