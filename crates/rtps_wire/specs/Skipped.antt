-- What is skipped: submessages that are not read. DDSI-RTPS 2.5, 8.3.4.1 "Rules Followed By The Message Receiver": a
-- submessage of an unknown id is ignored. own: so are those that specs/Message does not read.
use Rattle.std.specs.Prelude.{ℕ, ◌==◌, ◌&&◌, ◌||◌, Bool, List, [], ◌∷◌, is_none, Option, Some, None, Ok, Err}
use Rattle.rtps_wire.specs.Message as message
use Rattle.rtps_wire.specs.Reading as reading
use Rattle.rtps_wire.specs.Values as values
use Rattle.rtps_wire.specs.declared.layout.id.TheConstants as id_layout

-- the ids that are read
abbrev pub is_read : ℕ → Bool
is_read id = id == id_layout.ACKNACK || id == id_layout.HEARTBEAT || id == id_layout.GAP || id == id_layout.INFO_TS || id == id_layout.INFO_SRC || id == id_layout.INFO_DST || id == id_layout.DATA

-- the id of a body that is skipped
abbrev pub skipped_id : values.BodyValue → Option ℕ
skipped_id (values.BodyValue.Skipped id) = Some id
skipped_id _ = None

-- the id of what is read next, if it is skipped
abbrev pub skipped_next : List reading.Outcome → Option ℕ
skipped_next [] = None
skipped_next (Ok item ∷ later) = skipped_id item.body
skipped_next (Err refusal ∷ later) = None

-- these octets begin with a submessage of this id that has no fault
abbrev pub begins_with : ℕ → List ℕ → Bool
begins_with id rest = message.id_of rest == id && is_none (message.fault_at rest)
