-- Items, bodies and payloads. own: with lists of octets in place of borrowed slices, so that two are equal if their
-- octets are.
use Rattle.std.specs.Prelude.{ℕ, List, Option}
use Rattle.std.specs.Option.{option_map}
use Rattle.rtps_ids.specs.declared.identity.EntityId.{EntityId}
use Rattle.rtps_ids.specs.declared.identity.GuidPrefix.{GuidPrefix}
use Rattle.rtps_ids.specs.declared.identity.Stamp.{Stamp}
use Rattle.rtps_ids.specs.declared.identity.Vendor.{Vendor}
use Rattle.rtps_ids.specs.declared.identity.Version.{Version}
use Rattle.rtps_ids.specs.declared.order.Order.{Order}
use Rattle.rtps_params.specs.Lists as lists
use Rattle.rtps_wire.specs.declared.body.AckNackBody.{AckNackBody}
use Rattle.rtps_wire.specs.declared.body.Body.{Body}
use Rattle.rtps_wire.specs.declared.body.DataBody.{DataBody}
use Rattle.rtps_wire.specs.declared.body.GapBody.{GapBody}
use Rattle.rtps_wire.specs.declared.body.HeartbeatBody.{HeartbeatBody}
use Rattle.rtps_wire.specs.declared.body.Item.{Item}
use Rattle.rtps_wire.specs.declared.body.Payload.{Payload}

-- what a DATA carries: nothing, a whole sample, or the key of one
pub data PayloadValue : Type 0 where
  Absent : PayloadValue
  Whole : (octets : List ℕ) → PayloadValue
  Key : (octets : List ℕ) → PayloadValue

-- a DATA
pub record DataValue : Type 0 where
  pub reader : EntityId
  pub writer : EntityId
  pub number : ℕ
  pub qos : Option lists.ListValue
  pub payload : PayloadValue

-- what a submessage says, or the id of one that is not read
pub data BodyValue : Type 0 where
  Data : (value : DataValue) → BodyValue
  Heartbeat : (value : HeartbeatBody) → BodyValue
  AckNack : (value : AckNackBody) → BodyValue
  Gap : (value : GapBody) → BodyValue
  InfoTs : (time : Option Stamp) → BodyValue
  InfoDst : (prefix : GuidPrefix) → BodyValue
  InfoSrc : (version : Version) (vendor : Vendor) (prefix : GuidPrefix) → BodyValue
  Skipped : (id : ℕ) → BodyValue

-- a submessage at its place in the datagram, from 0, with the order of its octets
pub record ItemValue : Type 0 where
  pub at : ℕ
  pub order : Order
  pub body : BodyValue

-- a payload of the code, as a value
abbrev pub payload_value : Payload → PayloadValue
payload_value Payload.Absent = Absent
payload_value (Payload.Whole octets) = Whole octets.now
payload_value (Payload.Key octets) = Key octets.now

-- a DATA of the code, as a value
abbrev pub data_value : DataBody → DataValue
data_value value = record { reader = value.reader; writer = value.writer; number = value.number; qos = option_map lists.list_value value.qos; payload = payload_value value.payload }

-- a body of the code, as a value
abbrev pub body_value : Body → BodyValue
body_value (Body.Data value) = Data (data_value value)
body_value (Body.Heartbeat value) = Heartbeat value
body_value (Body.AckNack value) = AckNack value
body_value (Body.Gap value) = Gap value
body_value (Body.InfoTs time) = InfoTs time
body_value (Body.InfoDst prefix) = InfoDst prefix
body_value (Body.InfoSrc version vendor prefix) = InfoSrc version vendor prefix
body_value (Body.Skipped id) = Skipped id

-- an item of the code, as a value
abbrev pub item_value : Item → ItemValue
item_value item = record { at = item.at; order = item.order; body = body_value item.body }
