-- The process that a participant is in, by the parameters that announce it. DDSI-RTPS 2.5, 8.5.3.2 "SPDPdiscoveredParticipantData" and 9.6.3.
-- own: the names of the properties are those of two stacks: `__Hostname`, `__ProcessName` and `__Pid`, and `fastdds.physical_data.host` and
-- `.process`. Where a participant has both, the former count. A list that cannot be read is as if absent, and so is an empty text. User data is
-- as ROS 2 writes it: parts, each ended by a semicolon.
use Rattle.std.specs.Prelude.{ℕ, ◌+◌, Bool, if◌then◌else◌, ◌||◌, List, [], Option, Some, None, codes, drop, find, length, nat_eq, nat_le, option_and_then, option_copied, take, unwrap_or}
use Rattle.std.specs.Cmp.Lexicographic.{pointwise}
use Rattle.std.specs.List.{starts_with}
use Rattle.std.specs.Option.{option_map, option_or}
use Rattle.rtps_ids.specs.declared.order.Order.{Order}
use Rattle.rtps_params.specs.Values as values
use Rattle.rtps_discovery.specs.Announcement as announcement
use Rattle.rtps_who.specs.Digits as digits
use Rattle.rtps_who.specs.Items as items
use Rattle.rtps_who.specs.Texts as texts
use Rattle.rtps_who.specs.declared.layout.mark.TheConstants as mark
use Rattle.rtps_who.specs.declared.layout.pid.TheConstants as pid
use Rattle.rtps_who.specs.declared.layout.sequence.TheConstants as sequence
use Rattle.rtps_who.specs.declared.process.Process.{Process}

-- what a participant announces of its process
pub record ProcessValue : Type 0 where
  pub host : Option (List ℕ)
  pub program : Option (List ℕ)
  pub pid : Option ℕ
  pub name : Option (List ℕ)
  pub enclave : Option (List ℕ)

-- what a process of the code stands for
abbrev pub process_value : Process → ProcessValue
process_value process =
    record {
      host = option_copied process.host;
      program = option_copied process.program;
      pid = process.pid;
      name = option_copied process.name;
      enclave = option_copied process.enclave;
    }

-- nothing is known
abbrev pub unknown_process : ProcessValue
unknown_process = record { host = None; program = None; pid = None; name = None; enclave = None }

-- a text that is not one of these
abbrev pub unless : (List ℕ → Bool) → Option (List ℕ) → Option (List ℕ)
unless test None = None
unless test (Some text) = if test text then None else Some text

-- the text is the other
abbrev pub is_text : List ℕ → List ℕ → Bool
is_text other text = pointwise nat_eq text other

-- no text
abbrev pub is_nothing : List ℕ → Bool
is_nothing text = nat_eq (length text) 0

-- ---- properties

-- the properties that a participant announces
abbrev pub properties_in : announcement.Fields → List texts.PropertyValue
properties_in fields = unwrap_or (option_and_then (texts.properties_of fields.order) (announcement.field pid.PROPERTY_LIST fields)) []

-- a text up to its first colon
abbrev pub up_to_colon : List ℕ → List ℕ
up_to_colon text = take (unwrap_or (texts.place_of mark.COLON text) (length text)) text

-- the host that Fast DDS tells
abbrev pub fast_host_among : List texts.PropertyValue → Option (List ℕ)
fast_host_among properties = unless is_nothing (option_map up_to_colon (texts.value_among (codes "fastdds.physical_data.host") properties))

-- the host
abbrev pub host_among : List texts.PropertyValue → Option (List ℕ)
host_among properties =
    option_or (unless is_nothing (texts.value_among (codes "__Hostname") properties)) (fast_host_among properties)

-- the program that runs in it
abbrev pub program_among : List texts.PropertyValue → Option (List ℕ)
program_among properties = unless is_nothing (texts.value_among (codes "__ProcessName") properties)

-- its id
abbrev pub pid_among : List texts.PropertyValue → Option ℕ
pid_among properties =
    option_or (option_and_then digits.number_in (texts.value_among (codes "__Pid") properties))
    (option_and_then digits.number_in (texts.value_among (codes "fastdds.physical_data.process") properties))

-- ---- the name of the participant

-- a name that says nothing: those that stacks give by themselves
abbrev pub is_given : List ℕ → Bool
is_given text = is_nothing text || (is_text (codes "/") text || is_text (codes "RTPSParticipant") text)

-- its name
abbrev pub name_in : announcement.Fields → Option (List ℕ)
name_in fields = unless is_given (announcement.text_field pid.ENTITY_NAME fields)

-- ---- its enclave

-- octets behind their count (DDSI-RTPS 2.5, 9.3.2 "OctetSeq")
abbrev pub octets_of : Order → List ℕ → Option (List ℕ)
octets_of order value =
    option_and_then (λ count. if nat_le (sequence.COUNT_SIZE + count) (length value) then Some (take count (drop sequence.COUNT_SIZE value)) else None) (values.u32_of order value)

-- a part of user data that names an enclave
abbrev pub is_enclave : List ℕ → Bool
is_enclave piece = starts_with nat_eq piece (codes "enclave=")

-- the first enclave that user data names
abbrev pub enclave_among : List ℕ → Option (List ℕ)
enclave_among octets = option_map (λ piece. drop 8 piece) (find is_enclave (items.items_in (texts.front_piece mark.SEMICOLON) (length octets) octets))

-- an enclave that says nothing: none, and that of all
abbrev pub is_root : List ℕ → Bool
is_root text = is_nothing text || is_text (codes "/") text

-- its enclave
abbrev pub enclave_in : announcement.Fields → Option (List ℕ)
enclave_in fields = unless is_root (option_and_then enclave_among (option_and_then (octets_of fields.order) (announcement.field pid.USER_DATA fields)))

-- ---- all of it

-- what the fields of a participant announce of its process
abbrev pub process_in : announcement.Fields → ProcessValue
process_in fields =
    record {
      host = host_among (properties_in fields);
      program = program_among (properties_in fields);
      pid = pid_among (properties_in fields);
      name = name_in fields;
      enclave = enclave_in fields;
    }
