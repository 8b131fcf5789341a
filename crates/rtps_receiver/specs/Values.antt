-- Acts with lists of octets in place of borrowed slices. own: so that two are equal if they say the same, wherever
-- their octets are.
use Rattle.std.specs.Prelude.{ℕ, List, Option, Result, Ok, Err}
use Rattle.std.specs.Option.{option_map}
use Rattle.rtps_ids.specs.declared.identity.EntityId.{EntityId}
use Rattle.rtps_ids.specs.declared.identity.GuidPrefix.{GuidPrefix}
use Rattle.rtps_ids.specs.declared.identity.Stamp.{Stamp}
use Rattle.rtps_ids.specs.declared.identity.Vendor.{Vendor}
use Rattle.rtps_ids.specs.declared.identity.Version.{Version}
use Rattle.rtps_ids.specs.declared.order.Order.{Order}
use Rattle.rtps_wire.specs.Values as values
use Rattle.rtps_wire.specs.declared.body.AckNackBody.{AckNackBody}
use Rattle.rtps_wire.specs.declared.body.GapBody.{GapBody}
use Rattle.rtps_wire.specs.declared.body.HeartbeatBody.{HeartbeatBody}
use Rattle.rtps_wire.specs.declared.data_frag.Shape.{Shape}
use Rattle.rtps_wire.specs.declared.fault.Refusal.{Refusal}
use Rattle.rtps_wire.specs.declared.nack_frag.NackFrag.{NackFrag as NackFragBody}
use Rattle.rtps_receiver.specs.declared.act.Act.{Act}
use Rattle.rtps_receiver.specs.declared.act.ActBody.{ActBody}
use Rattle.rtps_receiver.specs.declared.spoken.FragmentBody.{FragmentBody}
use Rattle.rtps_receiver.specs.declared.spoken.SentPart.{SentPart}
use Rattle.rtps_receiver.specs.declared.spoken.Spoken.{Spoken}
use Rattle.rtps_receiver.specs.declared.spoken.SpokenBody.{SpokenBody}

-- the fragments that a DATA_FRAG sends, from the first one on
pub record SentPartValue : Type 0 where
  pub first : ℕ
  pub shape : Shape
  pub octets : List ℕ

-- a DATA_FRAG: the number of its sample, the fragments that it sends, and the sample where its fragments were put together
pub record FragmentValue : Type 0 where
  pub reader : EntityId
  pub writer : EntityId
  pub number : ℕ
  pub sent : Option SentPartValue
  pub told : Option values.PayloadValue

-- what an act says
pub data ActBodyValue : Type 0 where
  Data : (value : values.DataValue) → ActBodyValue
  Heartbeat : (value : HeartbeatBody) → ActBodyValue
  AckNack : (value : AckNackBody) → ActBodyValue
  Gap : (value : GapBody) → ActBodyValue
  DataFrag : (value : FragmentValue) → ActBodyValue
  NackFrag : (value : NackFragBody) → ActBodyValue

-- an act with the receiver's state at its place
pub record ActValue : Type 0 where
  pub at : ℕ
  pub source : GuidPrefix
  pub version : Version
  pub vendor : Vendor
  pub dest : Option GuidPrefix
  pub stamp : Option Stamp
  pub order : Order
  pub body : ActBodyValue

-- fragments of the code, as a value
abbrev pub sent_part_value : SentPart → SentPartValue
sent_part_value part = record { first = part.first; shape = part.shape; octets = part.octets.now }

-- a DATA_FRAG of the code, as a value
abbrev pub fragment_value : FragmentBody → FragmentValue
fragment_value value =
    record {
      reader = value.reader;
      writer = value.writer;
      number = value.number;
      sent = option_map sent_part_value value.sent;
      told = option_map values.payload_value value.told;
    }

-- what an act of the code says, as a value
abbrev pub act_body_value : ActBody → ActBodyValue
act_body_value (ActBody.Data value) = Data (values.data_value value)
act_body_value (ActBody.Heartbeat value) = Heartbeat value
act_body_value (ActBody.AckNack value) = AckNack value
act_body_value (ActBody.Gap value) = Gap value

-- what a walk of the code hands on, as a value
abbrev pub spoken_body_value : SpokenBody → ActBodyValue
spoken_body_value (SpokenBody.Act value) = act_body_value value
spoken_body_value (SpokenBody.DataFrag value) = DataFrag (fragment_value value)
spoken_body_value (SpokenBody.NackFrag value) = NackFrag value

-- what an act of the code stands for
abbrev pub act_value : Act → ActValue
act_value act =
    record {
      at = act.at;
      source = act.source;
      version = act.version;
      vendor = act.vendor;
      dest = act.dest;
      stamp = act.stamp;
      order = act.order;
      body = act_body_value act.body;
    }

-- the same of all that a walk hands on
abbrev pub spoken_value : Spoken → ActValue
spoken_value act =
    record {
      at = act.at;
      source = act.source;
      version = act.version;
      vendor = act.vendor;
      dest = act.dest;
      stamp = act.stamp;
      order = act.order;
      body = spoken_body_value act.body;
    }

-- the next act, or the refusal that ends the datagram, as a value
abbrev pub act_outcome_value : Result Act Refusal → Result ActValue Refusal
act_outcome_value (Ok act) = Ok (act_value act)
act_outcome_value (Err refusal) = Err refusal
