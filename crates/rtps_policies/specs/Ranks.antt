-- How strong kinds of policies are: a stronger one suits a request for a weaker. DDS 1.4, 2.2.3.
use Rattle.std.specs.Prelude.{ℕ, Bool, true, false}
use Rattle.rtps_policies.specs.declared.kinds.DestinationOrder.{DestinationOrder}
use Rattle.rtps_policies.specs.declared.kinds.Ownership.{Ownership}
use Rattle.rtps_policies.specs.declared.liveliness.LivelinessKind.{LivelinessKind}
use Rattle.rtps_policies.specs.declared.presentation.AccessScope.{AccessScope}

-- (2.2.3.11 "LIVELINESS")
abbrev pub liveliness_rank : LivelinessKind → ℕ
liveliness_rank LivelinessKind.Automatic = 0
liveliness_rank LivelinessKind.ManualByParticipant = 1
liveliness_rank LivelinessKind.ManualByTopic = 2

-- (2.2.3.17 "DESTINATION_ORDER")
abbrev pub destination_order_rank : DestinationOrder → ℕ
destination_order_rank DestinationOrder.ByReception = 0
destination_order_rank DestinationOrder.BySource = 1

-- (2.2.3.6 "PRESENTATION")
abbrev pub scope_rank : AccessScope → ℕ
scope_rank AccessScope.Instance = 0
scope_rank AccessScope.Topic = 1
scope_rank AccessScope.Group = 2

-- whether two kinds of ownership are the same
abbrev pub is_same_ownership : Ownership → Ownership → Bool
is_same_ownership Ownership.Shared Ownership.Shared = true
is_same_ownership Ownership.Exclusive Ownership.Exclusive = true
is_same_ownership _ _ = false
