-- Liveliness, ownership, destination order and presentation in the values of parameters. DDS 1.4, 2.2.3 "Supported QoS", and
-- DDSI-RTPS 2.5, 9.6.3 (how they are announced). own: a kind that is unknown, and a flag that is neither 0 nor 1, cannot be read.
use Rattle.std.specs.Prelude.{ℕ, ◌==◌, Bool, true, false, if◌then◌else◌, List, Option, Some, None, option_and_then, slice_get}
use Rattle.std.specs.Option.{option_map}
use Rattle.rtps_ids.specs.declared.order.Order.{Order}
use Rattle.rtps_params.specs.Values as values
use Rattle.rtps_policies.specs.Durations as durations
use Rattle.rtps_policies.specs.declared.kinds.DestinationOrder.{DestinationOrder}
use Rattle.rtps_policies.specs.declared.kinds.Ownership.{Ownership}
use Rattle.rtps_policies.specs.declared.layout.destination_order.TheConstants as destination_order
use Rattle.rtps_policies.specs.declared.layout.liveliness.TheConstants as liveliness
use Rattle.rtps_policies.specs.declared.layout.ownership.TheConstants as ownership
use Rattle.rtps_policies.specs.declared.layout.presentation.TheConstants as presentation
use Rattle.rtps_policies.specs.declared.liveliness.Liveliness.{Liveliness}
use Rattle.rtps_policies.specs.declared.liveliness.LivelinessKind.{LivelinessKind}
use Rattle.rtps_policies.specs.declared.presentation.AccessScope.{AccessScope}
use Rattle.rtps_policies.specs.declared.presentation.Presentation.{Presentation}

-- the ownership of a kind
abbrev pub ownership_of_kind : ℕ → Option Ownership
ownership_of_kind kind = if kind == ownership.SHARED then Some Ownership.Shared else if kind == ownership.EXCLUSIVE then Some Ownership.Exclusive else None

-- the ownership in a value
abbrev pub ownership_of : Order → List ℕ → Option Ownership
ownership_of order value = option_and_then ownership_of_kind (values.u32_of order value)

-- the destination order of a kind
abbrev pub destination_order_of_kind : ℕ → Option DestinationOrder
destination_order_of_kind kind =
    if kind == destination_order.BY_RECEPTION then Some DestinationOrder.ByReception else if kind == destination_order.BY_SOURCE then Some DestinationOrder.BySource else None

-- the destination order in a value
abbrev pub destination_order_of : Order → List ℕ → Option DestinationOrder
destination_order_of order value = option_and_then destination_order_of_kind (values.u32_of order value)

-- the liveliness of a kind
abbrev pub of_liveliness_kind : ℕ → Option LivelinessKind
of_liveliness_kind kind =
    if kind == liveliness.AUTOMATIC then Some LivelinessKind.Automatic
    else if kind == liveliness.MANUAL_BY_PARTICIPANT then Some LivelinessKind.ManualByParticipant
    else if kind == liveliness.MANUAL_BY_TOPIC then Some LivelinessKind.ManualByTopic
    else None

-- the kind at the beginning of a value
abbrev pub liveliness_kind_of : Order → List ℕ → Option LivelinessKind
liveliness_kind_of order value = option_and_then of_liveliness_kind (values.u32_of order value)

-- the liveliness in a value: its kind, and then its lease
abbrev pub liveliness_of : Order → List ℕ → Option Liveliness
liveliness_of order value =
    option_and_then (λ kind. option_map (λ lease. record { kind = kind; lease = lease }) (durations.duration_at order value liveliness.LEASE)) (liveliness_kind_of order value)

-- the scope of a kind
abbrev pub scope_of_kind : ℕ → Option AccessScope
scope_of_kind kind =
    if kind == presentation.INSTANCE then Some AccessScope.Instance
    else if kind == presentation.TOPIC then Some AccessScope.Topic
    else if kind == presentation.GROUP then Some AccessScope.Group
    else None

-- the scope at the beginning of a value
abbrev pub scope_of : Order → List ℕ → Option AccessScope
scope_of order value = option_and_then scope_of_kind (values.u32_of order value)

-- the flag that an octet spells
abbrev pub flag_of : ℕ → Option Bool
flag_of octet = if octet == 0 then Some false else if octet == 1 then Some true else None

-- the flag at an offset
abbrev pub flag_at : List ℕ → ℕ → Option Bool
flag_at value at = option_and_then flag_of (slice_get value at)

-- the presentation in a value: its scope, and then the flags for coherent and for ordered access
abbrev pub presentation_of : Order → List ℕ → Option Presentation
presentation_of order value =
    option_and_then
    (λ scope. option_and_then
    (λ coherent. option_map (λ ordered. record { scope = scope; coherent = coherent; ordered = ordered }) (flag_at value presentation.ORDERED))
    (flag_at value presentation.COHERENT))
    (scope_of order value)
