-- What a payload announces, or the first fault that it has. DDSI-RTPS 2.5, 8.5 "Discovery Module", 9.6 "Mapping of the
-- RTPS Protocol" (ids of parameters) and 10 "Serialized Payload Representation".
use Rattle.std.specs.Prelude.{ℕ, ◌≡◌, ◌==◌, ◌||◌, nat_eq, nat_lt, Bool, if◌then◌else◌, List, [], ◌∷◌, length, take, drop, replicate, is_err, Option, Some, None, is_none, unwrap_or, option_and_then, Result, Ok, Err}
use Rattle.rtps_ids.specs.declared.identity.Guid.{Guid}
use Rattle.rtps_ids.specs.declared.order.Order.{Order}
use Rattle.std.specs.Cmp.Lexicographic.{pointwise}
use Rattle.rtps_params.specs.Grammar as grammar
use Rattle.rtps_params.specs.Reading as reading
use Rattle.rtps_params.specs.Values as values
use Rattle.rtps_discovery.specs.Endpoint as endpoint
use Rattle.rtps_discovery.specs.declared.endpoint.Durability.{Durability}
use Rattle.rtps_discovery.specs.declared.endpoint.Reliability.{Reliability}
use Rattle.rtps_discovery.specs.declared.endpoint.Side.{Side}
use Rattle.rtps_discovery.specs.declared.fault.NoticeFault.{NoticeFault}
use Rattle.rtps_discovery.specs.declared.layout.durability.TheConstants as durability
use Rattle.rtps_discovery.specs.declared.layout.pid.TheConstants as pid
use Rattle.rtps_discovery.specs.declared.layout.reliability.TheConstants as reliability
use Rattle.rtps_discovery.specs.declared.layout.representation.TheConstants as representation

-- the first fault whose condition holds, or else the value
abbrev pub unless_fault : {X : Type 0} → List (NoticeFault × Bool) → X → Result X NoticeFault
unless_fault [] value = Ok value
unless_fault (row ∷ rows) value = if row.1 then Err row.0 else unless_fault rows value

-- what `says` makes of the value, or the fault if there is one
abbrev pub or_fault : {X Y : Type 0} → Result X NoticeFault → (X → Result Y NoticeFault) → Result Y NoticeFault
or_fault (Ok value) says = says value
or_fault (Err fault) says = Err fault

-- the parameters of a payload, and the order of the numbers in their values
pub record Fields : Type 0 where
  pub order : Order
  pub pairs : grammar.Pairs

-- the order of a parameter list whose representation has this id
abbrev pub order_of_id : List ℕ → Option Order
order_of_id id = if pointwise nat_eq id representation.PL_CDR_BE then Some Order.Big else if pointwise nat_eq id representation.PL_CDR_LE then Some Order.Little else None

-- the order that a payload names: its first octets are the id of the representation
abbrev pub order_of : List ℕ → Option Order
order_of payload = order_of_id (take representation.ID_SIZE payload)

-- the order of a payload whose representation is read (Big for any other)
abbrev pub payload_order : List ℕ → Order
payload_order payload = unwrap_or (order_of payload) Order.Big

-- the octets from the list on: after the id of the representation and two octets of options (own: these are ignored,
-- since neither representation has any)
abbrev pub list_part : List ℕ → List ℕ
list_part payload = drop representation.SIZE payload

-- the fields of a payload, or why it has none
unfoldable pub fields_of : List ℕ → Result Fields NoticeFault
fields_of payload =
    unless_fault (
    (NoticeFault.CutRepresentation, nat_lt (length payload) representation.SIZE)
    ∷ (NoticeFault.Representation, is_none (order_of payload))
    ∷ (NoticeFault.List, is_err (reading.list_end (payload_order payload) (list_part payload)))
    ∷ [])
    (record { order = payload_order payload; pairs = reading.pairs_of (payload_order payload) (list_part payload) })

-- the value of the first parameter with this id (own: if several have one id, the first one counts)
abbrev pub field : ℕ → Fields → Option (List ℕ)
field pid fields = reading.first_value pid fields.pairs

-- the GUID in a field
abbrev pub guid_field : ℕ → Fields → Option Guid
guid_field pid fields = option_and_then values.guid_of (field pid fields)

-- the text in a field
abbrev pub text_field : ℕ → Fields → Option (List ℕ)
text_field pid fields = option_and_then (values.text_of fields.order) (field pid fields)

-- the kind in the first four octets of a value, or the default if there is no value
abbrev pub kind_in : {X : Type 0} → Order → (ℕ → Option X) → X → Option (List ℕ) → Option X
kind_in order of_kind default None = Some default
kind_in order of_kind default (Some value) = option_and_then of_kind (values.u32_of order value)

-- the kind in a field, or the default if there is no field
abbrev pub kind_field : {X : Type 0} → ℕ → (ℕ → Option X) → X → Fields → Option X
kind_field pid of_kind default fields = kind_in fields.order of_kind default (field pid fields)

-- the GUID of the participant that is announced
abbrev pub participant_guid : Fields → Option Guid
participant_guid = guid_field pid.PARTICIPANT_GUID

-- the GUID of the endpoint that is announced
abbrev pub endpoint_guid : Fields → Option Guid
endpoint_guid = guid_field pid.ENDPOINT_GUID

-- the name of its topic
abbrev pub topic_of : Fields → Option (List ℕ)
topic_of = text_field pid.TOPIC_NAME

-- the name of its type
abbrev pub type_name_of : Fields → Option (List ℕ)
type_name_of = text_field pid.TYPE_NAME

-- the reliability that a kind stands for
abbrev pub reliability_of_kind : ℕ → Option Reliability
reliability_of_kind kind = if kind == reliability.BEST_EFFORT then Some Reliability.BestEffort else if kind == reliability.RELIABLE then Some Reliability.Reliable else None

-- own: a reliability that is not announced is the default of DDS, RELIABLE for a writer and BEST_EFFORT for a reader
abbrev pub default_reliability : Side → Reliability
default_reliability Side.Writer = Reliability.Reliable
default_reliability Side.Reader = Reliability.BestEffort

-- the reliability that an endpoint offers or asks for
abbrev pub reliability_of : Side → Fields → Option Reliability
reliability_of side = kind_field pid.RELIABILITY reliability_of_kind (default_reliability side)

-- the durability that a kind stands for
abbrev pub durability_of_kind : ℕ → Option Durability
durability_of_kind kind =
    if kind == durability.VOLATILE then Some Durability.Volatile
    else if kind == durability.TRANSIENT_LOCAL then Some Durability.TransientLocal
    else if kind == durability.TRANSIENT then Some Durability.Transient
    else if kind == durability.PERSISTENT then Some Durability.Persistent
    else None

-- own: a durability that is not announced is the default of DDS, VOLATILE
abbrev pub durability_of : Fields → Option Durability
durability_of = kind_field pid.DURABILITY durability_of_kind Durability.Volatile

-- GUID_UNKNOWN. It only fills a value that is not used, since there is a fault
abbrev pub unknown_guid : Guid
unknown_guid = record { prefix = record { 0 = replicate 12 0 }; entity = record { 0 = replicate 4 0 } }

-- the participant that these fields announce, or why they announce none
unfoldable pub participant_in : Fields → Result Guid NoticeFault
participant_in fields = unless_fault ((NoticeFault.NoGuid, is_none (participant_guid fields)) ∷ []) (unwrap_or (participant_guid fields) unknown_guid)

-- the participant that a payload announces, or its first fault
abbrev pub participant_of : List ℕ → Result Guid NoticeFault
participant_of payload = or_fault (fields_of payload) participant_in

-- the endpoint that these fields announce, or why they announce none
unfoldable pub endpoint_in : Side → Fields → Result endpoint.EndpointValue NoticeFault
endpoint_in side fields =
    unless_fault (
    (NoticeFault.NoGuid, is_none (endpoint_guid fields))
    ∷ (NoticeFault.NoTopic, is_none (field pid.TOPIC_NAME fields))
    ∷ (NoticeFault.NoType, is_none (field pid.TYPE_NAME fields))
    ∷ (NoticeFault.BadText, is_none (topic_of fields) || is_none (type_name_of fields))
    ∷ (NoticeFault.BadReliability, is_none (reliability_of side fields))
    ∷ (NoticeFault.BadDurability, is_none (durability_of fields))
    ∷ [])
    (record {
      guid = unwrap_or (endpoint_guid fields) unknown_guid;
      side = side;
      topic = unwrap_or (topic_of fields) [];
      type_name = unwrap_or (type_name_of fields) [];
      reliability = unwrap_or (reliability_of side fields) Reliability.BestEffort;
      durability = unwrap_or (durability_of fields) Durability.Volatile;
    })

-- the endpoint that a payload announces, or its first fault
abbrev pub endpoint_of : Side → List ℕ → Result endpoint.EndpointValue NoticeFault
endpoint_of side payload = or_fault (fields_of payload) (endpoint_in side)

-- A function that reads returns the fault if there is one. Else it returns a value that `view` maps to the right one.
abbrev pub ReadsOrFaults : {X Y : Type 0} → (X → Y) → Result X NoticeFault → Result Y NoticeFault → Type 0
ReadsOrFaults view (Ok x) said = said ≡ Ok (view x)
ReadsOrFaults view (Err fault) said = said ≡ Err fault
