-- Which submessages can be passed over if only the DATA are wanted, each with the receiver's state at its place.
-- DDSI-RTPS 2.5, 8.3.4.1 "Rules Followed By The Message Receiver": an invalid submessage ends its message, also if it
-- would be passed over.
use Rattle.std.specs.Prelude.{ℕ, Bool, true, false, List, [], ◌∷◌, Option, Some, None, Ok, Err}
use Rattle.rtps_wire.specs.Message as message
use Rattle.rtps_wire.specs.Reading as reading
use Rattle.rtps_wire.specs.Values as values
use Rattle.rtps_wire.specs.declared.fault.WireFault.{WireFault}

-- a body that is not that of a DATA, and does not change the receiver's state
abbrev pub is_dataless : values.BodyValue → Bool
is_dataless (values.BodyValue.Data value) = false
is_dataless (values.BodyValue.InfoTs time) = false
is_dataless (values.BodyValue.InfoDst prefix) = false
is_dataless (values.BodyValue.InfoSrc version vendor prefix) = false
is_dataless _ = true

-- such a body, if it has no fault
abbrev pub is_dataless_with : Option WireFault → values.BodyValue → Bool
is_dataless_with None body = is_dataless body
is_dataless_with (Some fault) body = false

-- whether the first submessage of these octets has no fault and such a body
abbrev pub is_dataless_at : List ℕ → Bool
is_dataless_at rest = is_dataless_with (message.fault_at rest) (message.body_of (message.id_of rest) (message.flags_of rest) (message.body_octets rest))

-- whether what is read next is an item with such a body
abbrev pub dataless_next : List reading.Outcome → Bool
dataless_next [] = false
dataless_next (Ok item ∷ later) = is_dataless item.body
dataless_next (Err refusal ∷ later) = false
