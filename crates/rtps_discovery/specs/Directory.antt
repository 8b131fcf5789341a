-- The map of a list of acts: what they announce. own: if announcements of one GUID disagree, the recording does not say
-- which one holds. Such a GUID is unsettled, whatever the order of its announcements. So the order of the acts does not
-- change the map.
use Rattle.std.specs.Prelude.{ℕ, ◌≡◌, ◌≢◌, ◌<◌, ◌++◌, ◌↔◌, length, take, List, Contains, Option, Some, None}
use Rattle.std.specs.List.Sorted.{IsStrictlySortedBy}
use Rattle.std.specs.List.{filter, filter_map}
use Rattle.std.specs.Map.{keys_of, lookup}
use Rattle.std.specs.BTreeMap.{is_at}
use Rattle.std.specs.Option.{is_none}
use Rattle.rtps_ids.specs.declared.identity.Guid.{Guid}
use Rattle.rtps_receiver.specs.Values as values
use Rattle.rtps_discovery.specs.Endpoint as endpoint_spec
use Rattle.rtps_discovery.specs.GuidOrder as guid_order
use Rattle.rtps_discovery.specs.Notice as notice

-- for each GUID its announcement, or None if its announcements disagree
abbrev pub Entries : Type 0
Entries = List (Guid × Option endpoint_spec.EndpointValue)

-- the participants, and the endpoints, each in the order of their GUIDs
pub record DirectoryValue : Type 0 where
  pub participants : List Guid
  pub endpoints : Entries

-- the entry of this GUID
abbrev pub entry_at : Entries → Guid → Option (Option endpoint_spec.EndpointValue)
entry_at entries guid = lookup (is_at (guid_order.guid_cmp guid)) entries

-- an endpoint that is announced, and all announcements of its GUID are equal to it in the six fields
pub record IsSettled (announced : List endpoint_spec.EndpointValue) (endpoint : endpoint_spec.EndpointValue) : Type 0 where
  pub is_announced : Contains announced endpoint
  pub alone : (other : endpoint_spec.EndpointValue) → Contains announced other → other.guid ≡ endpoint.guid → other ≡ endpoint

-- a GUID of which two announcements differ
pub record IsUnsettled (announced : List endpoint_spec.EndpointValue) (guid : Guid) : Type 0 where
  pub one : endpoint_spec.EndpointValue
  pub other : endpoint_spec.EndpointValue
  pub one_announced : Contains announced one
  pub other_announced : Contains announced other
  pub one_of : one.guid ≡ guid
  pub other_of : other.guid ≡ guid
  pub differ : one ≢ other

-- the entry of a GUID; there is none if no announcement is of this GUID
abbrev pub IsEntry : List endpoint_spec.EndpointValue → Guid → Option (Option endpoint_spec.EndpointValue) → Type 0
IsEntry announced guid None = (endpoint : endpoint_spec.EndpointValue) → Contains announced endpoint → endpoint.guid ≢ guid
IsEntry announced guid (Some (Some endpoint)) = (endpoint.guid ≡ guid) × IsSettled announced endpoint
IsEntry announced guid (Some None) = IsUnsettled announced guid

-- the GUIDs that are announced, in order, each once
pub record AreParticipants (announced participants : List Guid) : Type 0 where
  pub in_order : IsStrictlySortedBy guid_order.guid_cmp participants
  pub announced_alone : (guid : Guid) → Contains participants guid ↔ Contains announced guid

-- an entry for each GUID that is announced, in order
pub record AreEntries (announced : List endpoint_spec.EndpointValue) (entries : Entries) : Type 0 where
  pub in_order : IsStrictlySortedBy guid_order.guid_cmp (keys_of entries)
  pub each : (guid : Guid) → IsEntry announced guid (entry_at entries guid)

-- the map of a list of acts; a participant's GUID and an endpoint's are kept apart
pub record IsMapOf (acts : List values.ActValue) (map : DirectoryValue) : Type 0 where
  pub participants : AreParticipants (notice.participants_among acts) map.participants
  pub endpoints : AreEntries (notice.endpoints_among acts) map.endpoints

-- some of these acts are noted after those before: the first k of them, and not all
abbrev pub HasNotedSome : List values.ActValue → DirectoryValue → DirectoryValue → Type 0
HasNotedSome acts old new = (k : ℕ) × (k < length acts) × ((before : List values.ActValue) → IsMapOf before old → IsMapOf (before ++ take k acts) new)

-- the endpoints whose announcements agree, in the order of their GUIDs
abbrev pub settled_in : Entries → List endpoint_spec.EndpointValue
settled_in entries = filter_map (λ entry. entry.1) entries

-- the endpoint of a GUID, if there is an announcement of it, and all of them agree
abbrev pub agreed : Option (Option endpoint_spec.EndpointValue) → Option endpoint_spec.EndpointValue
agreed None = None
agreed (Some entry) = entry

-- the endpoint of this GUID, if all its announcements agree
abbrev pub settled_at : Entries → Guid → Option endpoint_spec.EndpointValue
settled_at entries guid = agreed (entry_at entries guid)

-- the GUIDs whose announcements disagree, in order
abbrev pub unsettled_in : Entries → List Guid
unsettled_in entries = keys_of (filter (λ entry. is_none entry.1) entries)
