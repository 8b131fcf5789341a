-- Who leaves. DDSI-RTPS 2.5, 9.6.4.9 "StatusInfo_t (PID_STATUS_INFO)", 9.6.4.8 "KeyHash (PID_KEY_HASH)" and 8.5.4 "The
-- Simple Endpoint Discovery Protocol": a participant disposes or unregisters what it announced, a reader of its own or itself
-- with all that it has. own: some stacks name the key in the payload and others in the key hash, so both are read.
use Rattle.std.specs.Prelude.{ℕ, Bool, false, ◌==◌, ◌%◌, ◌&&◌, ◌||◌, not, List, [], length, slice_index, Option, Some, None, option_and_then, Result, Ok, Err}
use Rattle.rtps_ids.specs.declared.identity.Guid.{Guid}
use Rattle.rtps_params.specs.Grammar as grammar
use Rattle.rtps_params.specs.Lists as lists
use Rattle.rtps_params.specs.Reading as reading
use Rattle.rtps_params.specs.Values as params_values
use Rattle.rtps_wire.specs.Values as wire_values
use Rattle.rtps_receiver.specs.Speech as speech
use Rattle.rtps_receiver.specs.Values as receiver_values
use Rattle.rtps_discovery.specs.Announcement as announcement
use Rattle.rtps_discovery.specs.Notice as notice
use Rattle.rtps_discovery.specs.declared.endpoint.Side.{Side}
use Rattle.rtps_discovery.specs.declared.fault.NoticeFault.{NoticeFault}
use Rattle.rtps_discovery.specs.declared.layout.pid.TheConstants as pid_layout
use Rattle.rtps_discovery.specs.declared.layout.status.TheConstants as status
use Rattle.rtps_discovery.specs.declared.notice.Subject.{Subject}

-- the parameters of one sample alone
abbrev pub inline_pairs : Option lists.ListValue → grammar.Pairs
inline_pairs (Some list) = reading.pairs_of list.order list.octets
inline_pairs None = []

-- the value of the first of them with this id
abbrev pub inline_value : ℕ → Option lists.ListValue → Option (List ℕ)
inline_value pid qos = reading.first_value pid (inline_pairs qos)

-- a status of four octets, in the last of which the lowest bit (disposed) or the next one (unregistered) is set
abbrev pub is_ending : Option (List ℕ) → Bool
is_ending (Some value) = (length value == status.SIZE) && not (slice_index value status.FLAGS % status.ENDS == 0)
is_ending None = false

-- the GUID under an id, where there are fields
abbrev pub guid_among : ℕ → Result announcement.Fields NoticeFault → Option Guid
guid_among pid (Ok fields) = announcement.guid_field pid fields
guid_among pid (Err fault) = None

-- the GUID under an id in a payload, a whole one or a key
abbrev pub guid_in_payload : ℕ → wire_values.PayloadValue → Option Guid
guid_in_payload pid (wire_values.PayloadValue.Whole octets) = guid_among pid (announcement.fields_of octets)
guid_in_payload pid (wire_values.PayloadValue.Key octets) = guid_among pid (announcement.fields_of octets)
guid_in_payload pid wire_values.PayloadValue.Absent = None

-- the one, or the other where it is absent
abbrev pub or_else : {X : Type 0} → Option X → Option X → Option X
or_else (Some x) other = Some x
or_else None other = other

-- the key of a DATA: the GUID under this id in its payload, or else the one in its key hash
abbrev pub key_of : ℕ → wire_values.DataValue → Option Guid
key_of pid value = or_else (guid_in_payload pid value.payload) (option_and_then params_values.guid_of (inline_value pid_layout.KEY_HASH value.qos))

-- the key is this GUID
abbrev pub is_key_of : Guid → Option Guid → Bool
is_key_of guid (Some key) = speech.is_prefix key.prefix guid.prefix && speech.is_entity key.entity guid.entity
is_key_of guid None = false

-- the key is of the participant of this GUID
abbrev pub is_key_of_participant : Guid → Option Guid → Bool
is_key_of_participant guid (Some key) = speech.is_prefix key.prefix guid.prefix
is_key_of_participant guid None = false

-- a DATA of what announces this subject has the key of the reader, or of its participant
abbrev pub has_key_of : Guid → Option Subject → wire_values.DataValue → Bool
has_key_of reader (Some Subject.Participant) value = is_key_of_participant reader (key_of pid_layout.PARTICIPANT_GUID value)
has_key_of reader (Some (Subject.Endpoint Side.Reader)) value = is_key_of reader (key_of pid_layout.ENDPOINT_GUID value)
has_key_of reader (Some (Subject.Endpoint Side.Writer)) value = false
has_key_of reader None value = false

-- a DATA says that the reader leaves, or its participant. A DATA_FRAG says no such thing (own: a key fits into a DATA)
abbrev pub says_left : Guid → receiver_values.ActBodyValue → Bool
says_left reader (receiver_values.ActBodyValue.Data value) = is_ending (inline_value pid_layout.STATUS_INFO value.qos) && has_key_of reader (notice.subject_of value.writer) value
says_left reader (receiver_values.ActBodyValue.Heartbeat value) = false
says_left reader (receiver_values.ActBodyValue.AckNack value) = false
says_left reader (receiver_values.ActBodyValue.Gap value) = false
says_left reader (receiver_values.ActBodyValue.DataFrag value) = false
says_left reader (receiver_values.ActBodyValue.NackFrag value) = false

-- a GUID is one of these two
abbrev pub is_one_of : Guid → Guid → Guid → Bool
is_one_of one other guid =
    (speech.is_prefix one.prefix guid.prefix && speech.is_entity one.entity guid.entity) || (speech.is_prefix other.prefix guid.prefix && speech.is_entity other.entity guid.entity)

-- its own participant says so, to whomever
abbrev pub leaves : Guid → receiver_values.ActValue → Bool
leaves reader act = speech.is_prefix act.source reader.prefix && says_left reader act.body
