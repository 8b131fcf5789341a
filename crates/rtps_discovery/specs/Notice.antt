-- Which acts are announcements, and what they announce. DDSI-RTPS 2.5, 8.5.3 "The Simple Participant Discovery
-- Protocol", 8.5.4 "The Simple Endpoint Discovery Protocol" and 9.3.1.3 "Predefined EntityIds".
use Rattle.std.specs.Prelude.{◌≡◌, ℕ, Bool, true, false, if◌then◌else◌, nat_eq, count_by, List, Contains, Option, Some, None, Result, Ok, Err}
use Rattle.std.specs.Cmp.Lexicographic.{pointwise}
use Rattle.std.specs.List.{filter_map}
use Rattle.std.specs.Option.{option_map}
use Rattle.rtps_ids.specs.declared.identity.EntityId.{EntityId}
use Rattle.rtps_ids.specs.declared.identity.Guid.{Guid}
use Rattle.rtps_wire.specs.Values as wire_values
use Rattle.rtps_receiver.specs.Values as receiver_values
use Rattle.rtps_discovery.specs.Announcement as announcement
use Rattle.rtps_discovery.specs.Endpoint as endpoint
use Rattle.rtps_discovery.specs.declared.endpoint.Side.{Side}
use Rattle.rtps_discovery.specs.declared.fault.NoticeFault.{NoticeFault}
use Rattle.rtps_discovery.specs.declared.layout.entity.TheConstants as entity
use Rattle.rtps_discovery.specs.declared.notice.Noted.{Noted}
use Rattle.rtps_discovery.specs.declared.notice.Subject.{Subject}

-- an entity id of these octets
abbrev pub is_entity : List ℕ → EntityId → Bool
is_entity octets entity = pointwise nat_eq entity.0 octets

-- what a built-in writer announces: there is one for participants, one for writers and one for readers
abbrev pub subject_of : EntityId → Option Subject
subject_of writer =
    if is_entity entity.PARTICIPANTS.0 writer then Some Subject.Participant
    else if is_entity entity.PUBLICATIONS.0 writer then Some (Subject.Endpoint Side.Writer)
    else if is_entity entity.SUBSCRIPTIONS.0 writer then Some (Subject.Endpoint Side.Reader)
    else None

-- a whole payload; a key or no payload announces nothing (own: disposals and unregistrations are not read)
abbrev pub whole_payload : wire_values.PayloadValue → Option (List ℕ)
whole_payload (wire_values.PayloadValue.Whole octets) = Some octets
whole_payload _ = None

-- a payload that announces something of this subject
abbrev pub notice_with : Option Subject → Option (List ℕ) → Option (Subject × List ℕ)
notice_with (Some subject) (Some payload) = Some (subject, payload)
notice_with _ _ = None

-- what a DATA announces, and the payload that does so, whatever its source and destination
abbrev pub notice_in : receiver_values.ActBodyValue → Option (Subject × List ℕ)
notice_in (receiver_values.ActBodyValue.Data value) = notice_with (subject_of value.writer) (whole_payload value.payload)
notice_in _ = None

-- what is announced: a participant or an endpoint
pub data Announced : Type 0 where
  Participant : (guid : Guid) → Announced
  Endpoint : (endpoint : endpoint.EndpointValue) → Announced

-- what a payload of this subject announces, or why it announces nothing
abbrev pub announced_by : Subject → List ℕ → Result Announced NoticeFault
announced_by Subject.Participant payload = announcement.or_fault (announcement.participant_of payload) (λ guid. Ok (Participant guid))
announced_by (Subject.Endpoint side) payload = announcement.or_fault (announcement.endpoint_of side payload) (λ endpoint. Ok (Endpoint endpoint))

-- what an act announces, or its fault; None if it is no announcement
abbrev pub announcement_of : receiver_values.ActValue → Option (Result Announced NoticeFault)
announcement_of act = option_map (λ notice. announced_by notice.0 notice.1) (notice_in act.body)

-- an act that announces the same as one of these acts, whatever the sources and destinations of both
pub record RepeatsOneOf (acts : List receiver_values.ActValue) (act : receiver_values.ActValue) : Type 0 where
  pub first : receiver_values.ActValue
  pub is_among : Contains acts first
  pub says_the_same : announcement_of act ≡ announcement_of first

-- what `note` returns for an act
abbrev pub answer_of : Option (Result Announced NoticeFault) → Noted
answer_of None = Noted.Nothing
answer_of (Some (Ok announced)) = Noted.Kept
answer_of (Some (Err fault)) = Noted.Fault fault

-- an announcement that could not be read
abbrev pub is_fault : Noted → Bool
is_fault Noted.Nothing = false
is_fault Noted.Kept = false
is_fault (Noted.Fault fault) = true

-- how many acts are announcements with a fault
abbrev pub faults_in : List receiver_values.ActValue → ℕ
faults_in acts = count_by (λ act. is_fault (answer_of (announcement_of act))) acts

-- the participant, if one is announced
abbrev pub participant_in : Option (Result Announced NoticeFault) → Option Guid
participant_in (Some (Ok (Participant guid))) = Some guid
participant_in _ = None

-- the endpoint, if one is announced
abbrev pub endpoint_in : Option (Result Announced NoticeFault) → Option endpoint.EndpointValue
endpoint_in (Some (Ok (Endpoint endpoint))) = Some endpoint
endpoint_in _ = None

-- the participants that these acts announce, in order
unfoldable pub participants_among : List receiver_values.ActValue → List Guid
participants_among acts = filter_map (λ act. participant_in (announcement_of act)) acts

-- the endpoints that these acts announce, in order
unfoldable pub endpoints_among : List receiver_values.ActValue → List endpoint.EndpointValue
endpoints_among acts = filter_map (λ act. endpoint_in (announcement_of act)) acts
