-- Which writer speaks an act (it sends it), which readers hear it (it is sent to them), and which writer an ACKNACK
-- answers. DDSI-RTPS 2.5, 8.3.4 "The RTPS Message Receiver", 8.3.8.1 "AckNack", 8.3.8.2 "Data", 8.3.8.3 "DataFrag",
-- 8.3.8.4 "Gap", 8.3.8.6 "Heartbeat" and 8.3.8.12 "NackFrag". own: a NACK_FRAG answers nobody, since it claims no number.
use Rattle.std.specs.Prelude.{◌≡◌, ◌⊎◌, ◌&&◌, ◌||◌, ◌∷◌, [], Bool, true, false, Option, Some, None}
use Rattle.std.specs.Str.{bytes_eq}
use Rattle.rtps_ids.specs.declared.identity.EntityId.{EntityId}
use Rattle.rtps_ids.specs.declared.identity.Guid.{Guid}
use Rattle.rtps_ids.specs.declared.identity.GuidPrefix.{GuidPrefix}
use Rattle.rtps_receiver.specs.Values as values

-- the writer that an act of a writer names
abbrev pub writer_named : values.ActBodyValue → Option EntityId
writer_named (values.ActBodyValue.Data value) = Some value.writer
writer_named (values.ActBodyValue.Heartbeat value) = Some value.writer
writer_named (values.ActBodyValue.Gap value) = Some value.writer
writer_named (values.ActBodyValue.DataFrag value) = Some value.writer
writer_named (values.ActBodyValue.AckNack value) = None
writer_named (values.ActBodyValue.NackFrag value) = None

-- the reader that an act of a writer names; zeros name every reader
abbrev pub reader_named : values.ActBodyValue → Option EntityId
reader_named (values.ActBodyValue.Data value) = Some value.reader
reader_named (values.ActBodyValue.Heartbeat value) = Some value.reader
reader_named (values.ActBodyValue.Gap value) = Some value.reader
reader_named (values.ActBodyValue.DataFrag value) = Some value.reader
reader_named (values.ActBodyValue.AckNack value) = None
reader_named (values.ActBodyValue.NackFrag value) = None

-- whether it is an ACKNACK
abbrev pub is_ack_nack : values.ActBodyValue → Bool
is_ack_nack (values.ActBodyValue.AckNack value) = true
is_ack_nack (values.ActBodyValue.NackFrag value) = false
is_ack_nack (values.ActBodyValue.Data value) = false
is_ack_nack (values.ActBodyValue.Heartbeat value) = false
is_ack_nack (values.ActBodyValue.Gap value) = false
is_ack_nack (values.ActBodyValue.DataFrag value) = false

-- whether it is an ACKNACK or a NACK_FRAG, which a reader sends and no writer
abbrev pub is_of_reader : values.ActBodyValue → Bool
is_of_reader (values.ActBodyValue.AckNack value) = true
is_of_reader (values.ActBodyValue.NackFrag value) = true
is_of_reader (values.ActBodyValue.Data value) = false
is_of_reader (values.ActBodyValue.Heartbeat value) = false
is_of_reader (values.ActBodyValue.Gap value) = false
is_of_reader (values.ActBodyValue.DataFrag value) = false

-- the entity that an act is from: the reader of an ACKNACK or a NACK_FRAG, the writer of any other act
abbrev pub entity_from : values.ActBodyValue → EntityId
entity_from (values.ActBodyValue.AckNack value) = value.reader
entity_from (values.ActBodyValue.NackFrag value) = value.reader
entity_from (values.ActBodyValue.Data value) = value.writer
entity_from (values.ActBodyValue.Heartbeat value) = value.writer
entity_from (values.ActBodyValue.Gap value) = value.writer
entity_from (values.ActBodyValue.DataFrag value) = value.writer

-- the GUID that an act is from: this entity of its source
abbrev pub origin_of : values.ActValue → Guid
origin_of act = record { prefix = act.source; entity = entity_from act.body }

-- the entity id of zeros names every reader (9.3.1.2 "Mapping of the EntityId_t", ENTITYID_UNKNOWN)
abbrev pub unknown_entity : EntityId
unknown_entity = record { 0 = 0 ∷ 0 ∷ 0 ∷ 0 ∷ [] }

-- A writer speaks the DATA, HEARTBEAT, GAP and DATA_FRAG from its participant that name it.
pub record IsSpokenBy (act : values.ActValue) (writer : Guid) : Type 0 where
  pub source : act.source ≡ writer.prefix
  pub entity : writer_named act.body ≡ Some writer.entity

-- A reader hears the DATA, HEARTBEAT, GAP and DATA_FRAG that are sent to everyone or to its participant, and that name
-- it or every reader. Whether it received them is not said.
pub record IsHeardBy (act : values.ActValue) (reader : Guid) : Type 0 where
  pub dest : (act.dest ≡ None) ⊎ (act.dest ≡ Some reader.prefix)
  pub entity : (reader_named act.body ≡ Some unknown_entity) ⊎ (reader_named act.body ≡ Some reader.entity)

-- an ACKNACK that names this reader and this writer
abbrev pub NamesPair : values.ActBodyValue → EntityId → EntityId → Type 0
NamesPair (values.ActBodyValue.AckNack value) reader writer = (value.reader ≡ reader) × (value.writer ≡ writer)
NamesPair (values.ActBodyValue.Data value) reader writer = ⊥
NamesPair (values.ActBodyValue.Heartbeat value) reader writer = ⊥
NamesPair (values.ActBodyValue.Gap value) reader writer = ⊥
NamesPair (values.ActBodyValue.DataFrag value) reader writer = ⊥
NamesPair (values.ActBodyValue.NackFrag value) reader writer = ⊥

-- An ACKNACK of the reader answers the writer if it names the writer and its destination is the writer's participant.
-- An ACKNACK to everyone answers nobody.
pub record IsAnswer (act : values.ActValue) (reader writer : Guid) : Type 0 where
  pub source : act.source ≡ reader.prefix
  pub dest : act.dest ≡ Some writer.prefix
  pub entities : NamesPair act.body reader.entity writer.entity

-- an ACKNACK or a NACK_FRAG that names this reader and this writer
abbrev pub AsksPair : values.ActBodyValue → EntityId → EntityId → Type 0
AsksPair (values.ActBodyValue.AckNack value) reader writer = (value.reader ≡ reader) × (value.writer ≡ writer)
AsksPair (values.ActBodyValue.NackFrag value) reader writer = (value.reader ≡ reader) × (value.writer ≡ writer)
AsksPair (values.ActBodyValue.Data value) reader writer = ⊥
AsksPair (values.ActBodyValue.Heartbeat value) reader writer = ⊥
AsksPair (values.ActBodyValue.Gap value) reader writer = ⊥
AsksPair (values.ActBodyValue.DataFrag value) reader writer = ⊥

-- An ACKNACK or a NACK_FRAG of the reader asks the writer, if it names the writer and its destination is the writer's
-- participant. One to everyone asks nobody.
pub record IsRequest (act : values.ActValue) (reader writer : Guid) : Type 0 where
  pub source : act.source ≡ reader.prefix
  pub dest : act.dest ≡ Some writer.prefix
  pub entities : AsksPair act.body reader.entity writer.entity

-- the writer that an ACKNACK names, of the participant that is its destination
abbrev pub answered_at : Option GuidPrefix → values.ActBodyValue → Option Guid
answered_at (Some dest) (values.ActBodyValue.AckNack value) = Some (record { prefix = dest; entity = value.writer })
answered_at _ _ = None

-- The writer that an act answers, if it answers one. The contract of `Act::answered` says that the act is an answer of
-- its origin to this writer and to no other.
abbrev pub writer_answered : values.ActValue → Option Guid
writer_answered act = answered_at act.dest act.body

-- Two GUID prefixes are the same. Laws say that each test from here on agrees with its relation.
abbrev pub is_prefix : GuidPrefix → GuidPrefix → Bool
is_prefix one other = bytes_eq one.0 other.0

-- two entity ids are the same
abbrev pub is_entity : EntityId → EntityId → Bool
is_entity one other = bytes_eq one.0 other.0

-- the entity that is named is this one
abbrev pub names : Option EntityId → EntityId → Bool
names (Some named) entity = is_entity named entity
names None entity = false

-- the destination is this participant, and not everyone
abbrev pub is_for : Option GuidPrefix → GuidPrefix → Bool
is_for (Some dest) prefix = is_prefix dest prefix
is_for None prefix = false

-- the destination is everyone
abbrev pub is_for_all : Option GuidPrefix → Bool
is_for_all (Some dest) = false
is_for_all None = true

-- whether a writer speaks an act
abbrev pub is_spoken_by : values.ActValue → Guid → Bool
is_spoken_by act writer = is_prefix act.source writer.prefix && names (writer_named act.body) writer.entity

-- whether an act with this destination that names this reader is sent to `reader`
abbrev pub is_among : Option GuidPrefix → Option EntityId → Guid → Bool
is_among dest named reader = (is_for_all dest || is_for dest reader.prefix) && (names named unknown_entity || names named reader.entity)

-- whether a reader hears an act
abbrev pub is_heard_by : values.ActValue → Guid → Bool
is_heard_by act reader = is_among act.dest (reader_named act.body) reader

-- whether it is an ACKNACK that names this reader and this writer
abbrev pub names_pair : values.ActBodyValue → EntityId → EntityId → Bool
names_pair (values.ActBodyValue.AckNack value) reader writer = is_entity value.reader reader && is_entity value.writer writer
names_pair (values.ActBodyValue.Data value) reader writer = false
names_pair (values.ActBodyValue.Heartbeat value) reader writer = false
names_pair (values.ActBodyValue.Gap value) reader writer = false
names_pair (values.ActBodyValue.DataFrag value) reader writer = false
names_pair (values.ActBodyValue.NackFrag value) reader writer = false

-- whether an act of this reader answers this writer
abbrev pub is_answer : values.ActValue → Guid → Guid → Bool
is_answer act reader writer = is_prefix act.source reader.prefix && (is_for act.dest writer.prefix && names_pair act.body reader.entity writer.entity)

-- whether it is an ACKNACK or a NACK_FRAG that names this reader and this writer
abbrev pub asks_pair : values.ActBodyValue → EntityId → EntityId → Bool
asks_pair (values.ActBodyValue.AckNack value) reader writer = is_entity value.reader reader && is_entity value.writer writer
asks_pair (values.ActBodyValue.NackFrag value) reader writer = is_entity value.reader reader && is_entity value.writer writer
asks_pair (values.ActBodyValue.Data value) reader writer = false
asks_pair (values.ActBodyValue.Heartbeat value) reader writer = false
asks_pair (values.ActBodyValue.Gap value) reader writer = false
asks_pair (values.ActBodyValue.DataFrag value) reader writer = false

-- whether an act of this reader asks this writer
abbrev pub is_request : values.ActValue → Guid → Guid → Bool
is_request act reader writer = is_prefix act.source reader.prefix && (is_for act.dest writer.prefix && asks_pair act.body reader.entity writer.entity)
