-- What is true of every item of the code. own: the types of the code ensure it: numbers are in the range of their
-- types, arrays have their lengths, sets are sets of the code, and an inline QoS is a parameter list.
use Rattle.std.specs.Prelude.{ℕ, ◌≡◌, ◌<◌, ◌<ℤ◌, ◌^◌, pos, length, All, Option, Some, None}
use Rattle.rtps_ids.specs.NumberSet as number_set
use Rattle.rtps_ids.specs.declared.identity.EntityId.{EntityId}
use Rattle.rtps_ids.specs.declared.identity.Stamp.{Stamp}
use Rattle.rtps_params.specs.Grammar as grammar
use Rattle.rtps_params.specs.Reading as reading
use Rattle.rtps_params.specs.Lists as lists
use Rattle.rtps_wire.specs.Values as values
use Rattle.rtps_wire.specs.declared.body.AckNackBody.{AckNackBody}
use Rattle.rtps_wire.specs.declared.body.GapBody.{GapBody}
use Rattle.rtps_wire.specs.declared.body.HeartbeatBody.{HeartbeatBody}
use Rattle.rtps_wire.specs.declared.header.Header.{Header}

-- a vendor id of two octets and a prefix of twelve
pub record IsHeldHeader (header : Header) : Type 0 where
  pub vendor : length header.vendor.0 ≡ 2
  pub prefix : length header.prefix.0 ≡ 12

-- an entity id of four octets
abbrev pub IsHeldEntity : EntityId → Type 0
IsHeldEntity entity = length entity.0 ≡ 4

-- a sequence number, 1 to 2^63 - 1
abbrev pub IsHeldNumber : ℕ → Type 0
IsHeldNumber number = (0 < number) × (number < 2 ^ 63)

-- a set of the code, in words of 32 bits
pub record IsHeldSet (set : number_set.NumberSetValue) : Type 0 where
  pub kept : number_set.IsKeptSet set
  pub words : All (λ word. word < 2 ^ 32) set.words

-- an inline QoS that is a parameter list in its order
abbrev pub IsHeldQos : Option lists.ListValue → Type 0
IsHeldQos None = Unit {0}
IsHeldQos (Some list) = grammar.IsList list.order (reading.pairs_of list.order list.octets) list.octets

-- a DATA; any octets may be its payload
pub record IsHeldData (body : values.DataValue) : Type 0 where
  pub reader : IsHeldEntity body.reader
  pub writer : IsHeldEntity body.writer
  pub number : IsHeldNumber body.number
  pub qos : IsHeldQos body.qos

-- a HEARTBEAT whose fields are in the range of their types
pub record IsHeldHeartbeat (body : HeartbeatBody) : Type 0 where
  pub reader : IsHeldEntity body.reader
  pub writer : IsHeldEntity body.writer
  pub first : IsHeldNumber body.first
  pub last : body.last <ℤ pos (2 ^ 63)
  pub count : body.count < 2 ^ 32

-- an ACKNACK whose fields are in the range of their types
pub record IsHeldAckNack (body : AckNackBody) : Type 0 where
  pub reader : IsHeldEntity body.reader
  pub writer : IsHeldEntity body.writer
  pub set : IsHeldSet body.set
  pub count : body.count < 2 ^ 32

-- a GAP whose fields are in the range of their types
pub record IsHeldGap (body : GapBody) : Type 0 where
  pub reader : IsHeldEntity body.reader
  pub writer : IsHeldEntity body.writer
  pub start : IsHeldNumber body.start
  pub list : IsHeldSet body.list

-- a time, or none
abbrev pub IsHeldTime : Option Stamp → Type 0
IsHeldTime None = Unit {0}
IsHeldTime (Some stamp) = (stamp.seconds < 2 ^ 32) × (stamp.fraction < 2 ^ 32)

-- a body whose fields are in the range of their types
abbrev pub IsHeldBody : values.BodyValue → Type 0
IsHeldBody (values.BodyValue.Data body) = IsHeldData body
IsHeldBody (values.BodyValue.Heartbeat body) = IsHeldHeartbeat body
IsHeldBody (values.BodyValue.AckNack body) = IsHeldAckNack body
IsHeldBody (values.BodyValue.Gap body) = IsHeldGap body
IsHeldBody (values.BodyValue.InfoTs time) = IsHeldTime time
IsHeldBody (values.BodyValue.InfoDst prefix) = length prefix.0 ≡ 12
IsHeldBody (values.BodyValue.InfoSrc version vendor prefix) = (length vendor.0 ≡ 2) × (length prefix.0 ≡ 12)
IsHeldBody (values.BodyValue.Skipped id) = Unit {0}

-- an item whose body is in the range of its types
abbrev pub IsHeldItem : values.ItemValue → Type 0
IsHeldItem item = IsHeldBody item.body
