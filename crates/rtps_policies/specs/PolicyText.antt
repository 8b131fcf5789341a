-- The names of policies. own: those of DDS 1.4, 2.2.3 and XTypes 1.3, 7.6.3.1.1, in lower case with underscores.
use Rattle.std.specs.Prelude.{ℕ, List, codes}
use Rattle.rtps_policies.specs.declared.fitting.Policy.{Policy}

-- the name of a policy
unfoldable pub policy_name : Policy → List ℕ
policy_name Policy.Reliability = codes "reliability"
policy_name Policy.Durability = codes "durability"
policy_name Policy.Deadline = codes "deadline"
policy_name Policy.LatencyBudget = codes "latency_budget"
policy_name Policy.Liveliness = codes "liveliness"
policy_name Policy.Ownership = codes "ownership"
policy_name Policy.DestinationOrder = codes "destination_order"
policy_name Policy.Presentation = codes "presentation"
policy_name Policy.Partition = codes "partition"
policy_name Policy.DataRepresentation = codes "data_representation"
policy_name Policy.Type = codes "type"
