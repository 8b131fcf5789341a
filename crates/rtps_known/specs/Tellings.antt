-- What an act says of the numbers of a built-in writer of endpoints. DDSI-RTPS 2.5, 8.5.4 "The Simple Endpoint Discovery Protocol", 8.3.8.1
-- "AckNack", 8.3.8.2 "Data", 8.3.8.3 "DataFrag" and 8.3.8.6 "Heartbeat". own: a number is told where it is sent, or a HEARTBEAT says that the
-- writer has it; what ends an endpoint is sent at the end, and stacks do not acknowledge it.
use Rattle.std.specs.Prelude.{ℕ, ◌==◌, ◌&&◌, ◌||◌, Bool, false, if◌then◌else◌, nat_le, nat_lt, Option, Some, None}
use Rattle.std.specs.Option.{option_map, option_or}
use Rattle.rtps_ids.specs.declared.identity.EntityId.{EntityId}
use Rattle.rtps_ids.specs.declared.identity.Guid.{Guid}
use Rattle.rtps_ids.specs.declared.identity.GuidPrefix.{GuidPrefix}
use Rattle.rtps_wire.specs.Values as wire_values
use Rattle.rtps_receiver.specs.Said as said
use Rattle.rtps_receiver.specs.Speech as speech
use Rattle.rtps_receiver.specs.Values as receiver_values
use Rattle.rtps_discovery.specs.Endpoint as endpoint
use Rattle.rtps_discovery.specs.Leaving as leaving
use Rattle.rtps_discovery.specs.Notice as notice
use Rattle.rtps_known.specs.declared.layout.entity.TheConstants as entity
use Rattle.rtps_known.specs.declared.layout.status.TheConstants as status
use Rattle.rtps_known.specs.declared.telling.Acknowledgement.{Acknowledgement}
use Rattle.rtps_known.specs.declared.telling.Announcement.{Announcement}

-- an act, and when its datagram came, if that is known
pub record TimedAct : Type 0 where
  pub act : receiver_values.ActValue
  pub time : Option ℕ

-- ---- what it says of numbers

-- an act tells of a number: it sends it, or some of it, or says that the writer has it
abbrev pub tells : receiver_values.ActBodyValue → ℕ → Bool
tells (receiver_values.ActBodyValue.Data value) n = value.number == n
tells (receiver_values.ActBodyValue.DataFrag value) n = value.number == n
tells (receiver_values.ActBodyValue.Heartbeat value) n = nat_le value.first n && nat_le n (said.natural value.last)
tells (receiver_values.ActBodyValue.AckNack value) n = false
tells (receiver_values.ActBodyValue.Gap value) n = false
tells (receiver_values.ActBodyValue.NackFrag value) n = false

-- for everyone, or for this participant
abbrev pub is_to : Option GuidPrefix → GuidPrefix → Bool
is_to dest prefix = speech.is_for_all dest || speech.is_for dest prefix

-- a time is known, and not later than this one
abbrev pub is_until : ℕ → Option ℕ → Bool
is_until end (Some time) = nat_le time end
is_until end None = false

-- an act tells a participant of a number, up to a time
abbrev pub tells_until : GuidPrefix → ℕ → ℕ → TimedAct → Bool
tells_until prefix end n timed = is_to timed.act.dest prefix && (tells timed.act.body n && is_until end timed.time)

-- a DATA says that what it is of is disposed or unregistered
abbrev pub says_ended : wire_values.DataValue → Bool
says_ended value = leaving.is_ending (leaving.inline_value status.PID value.qos)

-- the number of a DATA that says so
abbrev pub number_ended : receiver_values.ActBodyValue → Option ℕ
number_ended (receiver_values.ActBodyValue.Data value) = if says_ended value then Some value.number else None
number_ended _ = None

-- the number of a DATA
abbrev pub number_sent : receiver_values.ActBodyValue → Option ℕ
number_sent (receiver_values.ActBodyValue.Data value) = Some value.number
number_sent _ = None

-- the endpoint that a number announces
abbrev pub announcement_by : Option ℕ → Option endpoint.EndpointValue → Option Announcement
announcement_by (Some number) (Some endpoint) = Some (record { number = number; endpoint = endpoint.guid })
announcement_by _ _ = None

-- the endpoint that an act announces, with its number
abbrev pub announcement_in : receiver_values.ActValue → Option Announcement
announcement_in act = announcement_by (number_sent act.body) (notice.endpoint_in (notice.announcement_of act))

-- a value is there, and passes a test
abbrev pub holds : {X : Type 0} → (X → Bool) → Option X → Bool
holds test (Some x) = test x
holds test None = false

-- ---- which writer it is about

-- these are a built-in writer of endpoints and its reader
abbrev pub are_built_in : EntityId → EntityId → Bool
are_built_in writer reader =
    (speech.is_entity writer entity.PUBLICATIONS && speech.is_entity reader entity.PUBLICATIONS_READER)
    || (speech.is_entity writer entity.SUBSCRIPTIONS && speech.is_entity reader entity.SUBSCRIPTIONS_READER)

-- a built-in writer of endpoints
abbrev pub is_built_in : EntityId → Bool
is_built_in writer = speech.is_entity writer entity.PUBLICATIONS || speech.is_entity writer entity.SUBSCRIPTIONS

-- what an ACKNACK with this destination acknowledges to a built-in writer of endpoints
abbrev pub acknowledged_to : Option GuidPrefix → receiver_values.ActBodyValue → Option Acknowledgement
acknowledged_to (Some dest) (receiver_values.ActBodyValue.AckNack value) =
    if are_built_in value.writer value.reader then Some (record { writer = record { prefix = dest; entity = value.writer }; base = value.set.base }) else None
acknowledged_to _ _ = None

-- what an act acknowledges
abbrev pub acknowledgement_in : receiver_values.ActValue → Option Acknowledgement
acknowledgement_in act = acknowledged_to act.dest act.body

-- the built-in writer of endpoints that an act is from
abbrev pub teller_of : receiver_values.ActValue → Option Guid
teller_of act = if is_built_in (speech.origin_of act).entity then Some (speech.origin_of act) else None

-- the built-in writer of endpoints that an act is about: the one that it acknowledges something to, or else the one that it is from
abbrev pub subject_of : receiver_values.ActValue → Option Guid
subject_of act = option_or (option_map (λ one. one.writer) (acknowledgement_in act)) (teller_of act)

-- two GUIDs are the same
abbrev pub is_guid : Guid → Guid → Bool
is_guid one other = speech.is_prefix one.prefix other.prefix && speech.is_entity one.entity other.entity

-- a participant acknowledges a number: the base is above it
abbrev pub acknowledges : GuidPrefix → ℕ → TimedAct → Bool
acknowledges prefix n timed = speech.is_prefix timed.act.source prefix && holds (λ one. nat_lt n one.base) (acknowledgement_in timed.act)
