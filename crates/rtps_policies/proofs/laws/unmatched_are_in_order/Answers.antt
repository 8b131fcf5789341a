use Rattle.rtps_discovery.specs.Directory as directory_spec
use Rattle.rtps_policies.proofs.UnmatchedOrder.{unmatched_in_order}
use Rattle.rtps_policies.proofs.laws.unmatched_are_in_order.Goals as goal

pub returns : goal.returns
returns c = λ acts directory of_acts. unmatched_in_order acts (directory_spec.settled_in directory.endpoints) (c.in_order.ensures.endpoints acts directory of_acts)
