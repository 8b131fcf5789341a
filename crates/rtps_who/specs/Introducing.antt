-- What acts announce of processes, of the writers that tell of nodes, and of parameter services. DDSI-RTPS 2.5, 8.5 "Discovery Module".
-- own: of a participant the first announcement without a fault counts; a writer is one that tells of nodes, and a service is there, where some
-- announcement without a fault says so.
use Rattle.std.specs.Prelude.{ℕ, ◌≡◌, ◌&&◌, ◌||◌, Bool, if◌then◌else◌, List, [], Option, Some, None, codes, flat_map, fold, nat_eq, unwrap_or}
use Rattle.std.specs.BTreeMap.{is_at}
use Rattle.std.specs.BTreeSet.{BTreeSet, contains}
use Rattle.std.specs.Cmp.Lexicographic.{pointwise, slice_cmp}
use Rattle.std.specs.List.{filter_map, list_any}
use Rattle.std.specs.Map.{lookup}
use Rattle.std.specs.Option.{option_map, option_to_list}
use Rattle.std.specs.Ordering.{is_eq, nat_cmp}
use Rattle.std.specs.declared.cmp.Ordering.{Ordering}
use Rattle.rtps_ids.specs.declared.identity.Guid.{Guid}
use Rattle.rtps_ids.specs.declared.identity.GuidPrefix.{GuidPrefix}
use Rattle.rtps_receiver.specs.Values as values
use Rattle.rtps_discovery.specs.Announcement as announcement
use Rattle.rtps_discovery.specs.Endpoint as endpoint
use Rattle.rtps_discovery.specs.GuidOrder as guid_order
use Rattle.rtps_discovery.specs.Matching as matching
use Rattle.rtps_discovery.specs.Notice as notice
use Rattle.rtps_policies.specs.Announcing as announcing
use Rattle.rtps_who.specs.Fields as fields
use Rattle.rtps_who.specs.Processes as processes
use Rattle.rtps_who.specs.Samples as samples
use Rattle.rtps_who.specs.Services as services
use Rattle.rtps_who.specs.declared.introductions.Introductions.{Introductions}
use Rattle.rtps_who.specs.declared.service.Service.{Service}

-- the order of prefixes
abbrev pub prefix_cmp : GuidPrefix → GuidPrefix → Ordering
prefix_cmp a b = slice_cmp nat_cmp a.0 b.0

-- ---- processes

-- the process by the fields of a payload
abbrev pub process_by : Option announcement.Fields → processes.ProcessValue
process_by None = processes.unknown_process
process_by (Some fields) = processes.process_in fields

-- the participant that an act announces, and its process
abbrev pub process_told : values.ActValue → Option (Guid × processes.ProcessValue)
process_told act = option_map (λ guid. (guid, process_by (fields.fields_in act.body))) (notice.participant_in (notice.announcement_of act))

-- the process that acts announce first of a participant
abbrev pub process_among : List values.ActValue → Guid → Option processes.ProcessValue
process_among acts guid = announcing.first_of guid (filter_map process_told acts)

-- ---- endpoints

-- the endpoint that an act announces
abbrev pub endpoint_told : values.ActValue → Option endpoint.EndpointValue
endpoint_told act = notice.endpoint_in (notice.announcement_of act)

-- a writer that tells of nodes
abbrev pub tells_nodes : endpoint.EndpointValue → Bool
tells_nodes endpoint =
    matching.is_writer endpoint.side
    && (pointwise nat_eq endpoint.topic (codes "ros_discovery_info") && pointwise nat_eq endpoint.type_name (codes "rmw_dds_common::msg::dds_::ParticipantEntitiesInfo_"))

-- an endpoint of this GUID that is one
abbrev pub is_teller : Guid → endpoint.EndpointValue → Bool
is_teller guid endpoint = tells_nodes endpoint && is_eq (guid_order.guid_cmp endpoint.guid guid)

-- a writer of this GUID that tells of nodes is announced
abbrev pub is_teller_among : List values.ActValue → Guid → Bool
is_teller_among acts guid = list_any (is_teller guid) (filter_map endpoint_told acts)

-- the name that an endpoint of a service gives its participant, if that is this one
abbrev pub names_by : GuidPrefix → endpoint.EndpointValue → List (List ℕ)
names_by prefix endpoint = if is_at (prefix_cmp endpoint.guid.prefix) prefix then option_to_list (services.service_of endpoint) else []

-- the names that services give a participant
abbrev pub service_names : List values.ActValue → GuidPrefix → List (List ℕ)
service_names acts prefix = flat_map (names_by prefix) (filter_map endpoint_told acts)

-- what is kept is what these acts announce
pub record IsIntroducedBy (acts : List values.ActValue) (introductions : Introductions) : Type 0 where
  pub processes : (guid : Guid) → option_map processes.process_value (announcing.first_of guid introductions.processes.entries) ≡ process_among acts guid
  pub tellers : (guid : Guid) → contains guid_order.guid_cmp introductions.tellers guid ≡ is_teller_among acts guid
  pub services : (prefix : GuidPrefix) → option_map services.service_value (lookup (is_at (prefix_cmp prefix)) introductions.services.entries) ≡ services.names_of (service_names acts prefix)

-- the writers that tell of nodes are kept after one endpoint more
abbrev pub KeepsTeller : BTreeSet Guid → BTreeSet Guid → endpoint.EndpointValue → Type 0
KeepsTeller old new endpoint = (guid : Guid) → contains guid_order.guid_cmp new guid ≡ (contains guid_order.guid_cmp old guid || is_teller guid endpoint)

-- and so are the names by services
abbrev pub KeepsService : List (GuidPrefix × Service) → List (GuidPrefix × Service) → endpoint.EndpointValue → Type 0
KeepsService old new endpoint =
    (prefix : GuidPrefix) → option_map services.service_value (lookup (is_at (prefix_cmp prefix)) new)
    ≡ fold services.with_name (option_map services.service_value (lookup (is_at (prefix_cmp prefix)) old)) (names_by prefix endpoint)

-- what is kept after one endpoint more
pub record KeepsEndpoint (old new : Introductions) (endpoint : endpoint.EndpointValue) : Type 0 where
  pub processes : new.processes.entries ≡ old.processes.entries
  pub tellers : KeepsTeller old.tellers new.tellers endpoint
  pub services : KeepsService old.services.entries new.services.entries endpoint

-- ---- what is kept

-- the process of a participant, as it is kept
abbrev pub process_kept : Introductions → Guid → processes.ProcessValue
process_kept introductions guid = unwrap_or (option_map processes.process_value (announcing.first_of guid introductions.processes.entries)) processes.unknown_process

-- the node that its services name
abbrev pub services_kept : Introductions → GuidPrefix → Option samples.NodeValue
services_kept introductions prefix = services.node_by (option_map services.service_value (lookup (is_at (prefix_cmp prefix)) introductions.services.entries))
