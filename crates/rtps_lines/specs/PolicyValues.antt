-- The words for what writers offer and readers request. DDS 1.4, 2.2.3, and XTypes 1.3, 7.6.3.1.1, for the names of kinds.
use Rattle.std.specs.Prelude.{ℕ, ◌==◌, Bool, if◌then◌else◌, List, [], ◌∷◌, codes, decimal}
use Rattle.std.specs.List.{concat, flat_map, join_by}
use Rattle.rtps_discovery.specs.Matching as matching
use Rattle.rtps_discovery.specs.declared.endpoint.Durability.{Durability}
use Rattle.rtps_discovery.specs.declared.endpoint.Reliability.{Reliability}
use Rattle.rtps_parts.specs.Names as names
use Rattle.rtps_parts.specs.RosNames as ros_names
use Rattle.rtps_policies.specs.DurationText as duration_text
use Rattle.rtps_policies.specs.Fitting as fitting
use Rattle.rtps_policies.specs.Views as views
use Rattle.rtps_policies.specs.declared.fitting.Policy.{Policy}
use Rattle.rtps_policies.specs.declared.kinds.DestinationOrder.{DestinationOrder}
use Rattle.rtps_policies.specs.declared.kinds.Ownership.{Ownership}
use Rattle.rtps_policies.specs.declared.liveliness.Liveliness.{Liveliness}
use Rattle.rtps_policies.specs.declared.liveliness.LivelinessKind.{LivelinessKind}
use Rattle.rtps_policies.specs.declared.presentation.AccessScope.{AccessScope}
use Rattle.rtps_policies.specs.declared.presentation.Presentation.{Presentation}
use Rattle.rtps_lines.specs.declared.policy_values.NameStyle.{NameStyle}

-- a reliability in words
unfoldable pub reliability_word : Reliability → List ℕ
reliability_word Reliability.BestEffort = codes "best effort"
reliability_word Reliability.Reliable = codes "reliable"

-- a durability in words
unfoldable pub durability_word : Durability → List ℕ
durability_word Durability.Volatile = codes "volatile"
durability_word Durability.TransientLocal = codes "transient local"
durability_word Durability.Transient = codes "transient"
durability_word Durability.Persistent = codes "persistent"

-- a kind of liveliness in words
unfoldable pub liveliness_word : LivelinessKind → List ℕ
liveliness_word LivelinessKind.Automatic = codes "automatic"
liveliness_word LivelinessKind.ManualByParticipant = codes "manual by participant"
liveliness_word LivelinessKind.ManualByTopic = codes "manual by topic"

-- an ownership in words
unfoldable pub ownership_word : Ownership → List ℕ
ownership_word Ownership.Shared = codes "shared"
ownership_word Ownership.Exclusive = codes "exclusive"

-- a destination order in words
unfoldable pub destination_order_word : DestinationOrder → List ℕ
destination_order_word DestinationOrder.ByReception = codes "reception time"
destination_order_word DestinationOrder.BySource = codes "source time"

-- a scope of presentation in words
unfoldable pub scope_word : AccessScope → List ℕ
scope_word AccessScope.Instance = codes "instance"
scope_word AccessScope.Topic = codes "topic"
scope_word AccessScope.Group = codes "group"

-- the kind, and how often at least a writer is alive
abbrev pub liveliness_text : Liveliness → List ℕ
liveliness_text liveliness = concat (liveliness_word liveliness.kind ∷ codes ", lease " ∷ duration_text.duration_text liveliness.lease ∷ [])

-- a word, where it is so
abbrev pub where_so : Bool → List ℕ → List ℕ
where_so is word = if is then word else []

-- the scope, and which access is asked for
abbrev pub presentation_text : Presentation → List ℕ
presentation_text presentation =
    concat (scope_word presentation.scope ∷ where_so presentation.coherent (codes ", coherent") ∷ where_so presentation.ordered (codes ", ordered") ∷ [])

-- the name of a representation, or its id where it has none
unfoldable pub id_text : ℕ → List ℕ
id_text id = if id == 0 then codes "XCDR1" else if id == 1 then codes "XML" else if id == 2 then codes "XCDR2" else decimal id

-- what a writer sends, which is the first that it announces, and what a reader takes
abbrev pub representations_text : fitting.ProfileValue → List ℕ
representations_text profile =
    if matching.is_writer profile.endpoint.side then id_text (views.first_in profile.policies.representations)
    else join_by id_text (codes ", ") (views.accepted_in profile.policies.representations)

-- the name of a type, by DDS or by ROS 2
abbrev pub type_name_text : NameStyle → List ℕ → List ℕ
type_name_text NameStyle.Dds kind = flat_map names.octet_text kind
type_name_text NameStyle.Ros kind = ros_names.type_text kind

-- what an endpoint has of a policy
abbrev pub value_text : NameStyle → Policy → fitting.ProfileValue → List ℕ
value_text naming Policy.Reliability profile = reliability_word profile.endpoint.reliability
value_text naming Policy.Durability profile = durability_word profile.endpoint.durability
value_text naming Policy.Deadline profile = duration_text.duration_text profile.policies.deadline
value_text naming Policy.LatencyBudget profile = duration_text.duration_text profile.policies.latency_budget
value_text naming Policy.Liveliness profile = liveliness_text profile.policies.liveliness
value_text naming Policy.Ownership profile = ownership_word profile.policies.ownership
value_text naming Policy.DestinationOrder profile = destination_order_word profile.policies.destination_order
value_text naming Policy.Presentation profile = presentation_text profile.policies.presentation
value_text naming Policy.Partition profile = join_by names.name_text (codes ", ") profile.policies.partition
value_text naming Policy.DataRepresentation profile = representations_text profile
value_text naming Policy.Type profile = type_name_text naming profile.endpoint.type_name

-- the name of a policy in words
unfoldable pub policy_words : Policy → List ℕ
policy_words Policy.Reliability = codes "reliability"
policy_words Policy.Durability = codes "durability"
policy_words Policy.Deadline = codes "deadline"
policy_words Policy.LatencyBudget = codes "latency budget"
policy_words Policy.Liveliness = codes "liveliness"
policy_words Policy.Ownership = codes "ownership"
policy_words Policy.DestinationOrder = codes "destination order"
policy_words Policy.Presentation = codes "presentation"
policy_words Policy.Partition = codes "partition"
policy_words Policy.DataRepresentation = codes "data representation"
policy_words Policy.Type = codes "type"
