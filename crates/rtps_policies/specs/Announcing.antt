-- What acts announce of policies and of hosts. DDSI-RTPS 2.5, 8.5 "Discovery Module". own: of the announcements of a GUID the first one
-- without a fault counts, whatever its source and destination. A later one may change a policy, and no recording shows which of them another
-- participant got.
use Rattle.std.specs.Prelude.{ℕ, ◌≡◌, false, List, [], Option, Some, None, unwrap_or}
use Rattle.std.specs.BTreeMap.{is_at}
use Rattle.std.specs.List.{filter_map}
use Rattle.std.specs.Map.{lookup}
use Rattle.std.specs.Option.{option_map}
use Rattle.std.specs.Result.{result_ok}
use Rattle.rtps_ids.specs.declared.identity.Guid.{Guid}
use Rattle.rtps_ids.specs.declared.identity.GuidPrefix.{GuidPrefix}
use Rattle.rtps_receiver.specs.Values as values
use Rattle.rtps_discovery.specs.Announcement as announcement
use Rattle.rtps_discovery.specs.Endpoint as endpoint
use Rattle.rtps_discovery.specs.GuidOrder as guid_order
use Rattle.rtps_discovery.specs.Notice as notice
use Rattle.rtps_policies.specs.Fitting as fitting
use Rattle.rtps_policies.specs.Hosts as hosts
use Rattle.rtps_policies.specs.Policies as policies
use Rattle.rtps_policies.specs.declared.announced.Announced.{Announced}
use Rattle.rtps_policies.specs.declared.host.Host.{Host}
use Rattle.rtps_policies.specs.declared.layout.entity.TheConstants as entity
use Rattle.rtps_policies.specs.declared.layout.lease.TheConstants as lease

-- the payload of an act that has a whole one
abbrev pub payload_of : values.ActBodyValue → List ℕ
payload_of (values.ActBodyValue.Data value) = unwrap_or (notice.whole_payload value.payload) []
payload_of _ = []

-- the policies that the fields of a payload announce (of one that has none: those of an endpoint that announces none)
abbrev pub policies_by : Option announcement.Fields → policies.PoliciesValue
policies_by None = policies.unannounced
policies_by (Some fields) = policies.policies_in fields

-- what is unknown of a host
abbrev pub unknown_host : Host
unknown_host = record { domain = None; address = None; lease = lease.DEFAULT; shares_memory = false }

-- what the fields of a payload announce of a host
abbrev pub host_by : Option announcement.Fields → Host
host_by None = unknown_host
host_by (Some fields) = hosts.host_in fields

-- the endpoint that an act announces, and its policies
abbrev pub policies_told : values.ActValue → Option (Guid × policies.PoliciesValue)
policies_told act =
    option_map (λ endpoint. (endpoint.guid, policies_by (result_ok (announcement.fields_of (payload_of act.body))))) (notice.endpoint_in (notice.announcement_of act))

-- the participant that an act announces, and its host
abbrev pub host_told : values.ActValue → Option (Guid × Host)
host_told act = option_map (λ guid. (guid, host_by (result_ok (announcement.fields_of (payload_of act.body))))) (notice.participant_in (notice.announcement_of act))

-- what is told of a GUID first
abbrev pub first_of : {X : Type 0} → Guid → List (Guid × X) → Option X
first_of guid told = lookup (is_at (guid_order.guid_cmp guid)) told

-- the policies that acts announce first of an endpoint
abbrev pub policies_among : List values.ActValue → Guid → Option policies.PoliciesValue
policies_among acts guid = first_of guid (filter_map policies_told acts)

-- what acts announce first of a participant's host
abbrev pub host_among : List values.ActValue → Guid → Option Host
host_among acts guid = first_of guid (filter_map host_told acts)

-- the participant of a prefix (DDSI-RTPS 2.5, 9.3.1.3)
abbrev pub participant_of : GuidPrefix → Guid
participant_of prefix = record { prefix = prefix; entity = entity.PARTICIPANT }

-- the host of the participant of a prefix, as acts announce it first
abbrev pub host_of : List values.ActValue → GuidPrefix → Host
host_of acts prefix = unwrap_or (host_among acts (participant_of prefix)) unknown_host

-- an endpoint with what acts announce first of it, and of its participant
abbrev pub profile_among : List values.ActValue → endpoint.EndpointValue → fitting.ProfileValue
profile_among acts endpoint =
    record {
      endpoint = endpoint;
      policies = unwrap_or (policies_among acts endpoint.guid) policies.unannounced;
      host = host_of acts endpoint.guid.prefix;
    }

-- the host of a participant as it is kept
abbrev pub kept_host : Announced → Guid → Host
kept_host announced participant = unwrap_or (first_of participant announced.hosts.entries) unknown_host

-- and that of the participant of a prefix
abbrev pub hosts_in : Announced → GuidPrefix → Host
hosts_in announced prefix = kept_host announced (participant_of prefix)

-- what is kept is what these acts announce first
pub record IsAnnouncedBy (acts : List values.ActValue) (announced : Announced) : Type 0 where
  pub policies : (guid : Guid) → option_map policies.policies_value (first_of guid announced.policies.entries) ≡ policies_among acts guid
  pub hosts : (guid : Guid) → first_of guid announced.hosts.entries ≡ host_among acts guid
