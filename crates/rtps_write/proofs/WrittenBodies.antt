-- A written body, by its kind: its flags tell the order, and its extent is its length.
use Rattle.std.proofs.Common.{◌≡◌, ◌<◌, ℕ, Bool, true, false, Option, Some, None, length, refl, arith}
use Rattle.std.specs.Prelude.{◌==◌, bit_or}
use Rattle.std.proofs.lemmas.Bool.Decides.{nat_tests}
use Rattle.rtps_ids.specs.declared.identity.Stamp.{Stamp}
use Rattle.rtps_ids.specs.declared.order.Order.{Order}
use Rattle.rtps_params.specs.Lists as lists
use Rattle.rtps_wire.specs.Message as message
use Rattle.rtps_wire.specs.Values as values
use Rattle.rtps_write.specs.WrittenBodies as written_bodies
use Rattle.rtps_write.specs.Flags as flags
use Rattle.rtps_write.specs.Written as written

order_plain : (order : Order) → message.order_of (bit_or (flags.order_flag order) 0) ≡ order
order_plain Order.Big = refl
order_plain Order.Little = refl

order_data : (order : Order) (qos : Option lists.ListValue) (payload : values.PayloadValue) → message.order_of (bit_or (flags.order_flag order) (bit_or (written_bodies.qos_flag qos) (written_bodies.payload_flag payload))) ≡ order
order_data Order.Big None values.PayloadValue.Absent = refl
order_data Order.Big None (values.PayloadValue.Whole octets) = refl
order_data Order.Big None (values.PayloadValue.Key octets) = refl
order_data Order.Big (Some list) values.PayloadValue.Absent = refl
order_data Order.Big (Some list) (values.PayloadValue.Whole octets) = refl
order_data Order.Big (Some list) (values.PayloadValue.Key octets) = refl
order_data Order.Little None values.PayloadValue.Absent = refl
order_data Order.Little None (values.PayloadValue.Whole octets) = refl
order_data Order.Little None (values.PayloadValue.Key octets) = refl
order_data Order.Little (Some list) values.PayloadValue.Absent = refl
order_data Order.Little (Some list) (values.PayloadValue.Whole octets) = refl
order_data Order.Little (Some list) (values.PayloadValue.Key octets) = refl

order_heartbeat : (order : Order) (is_final live : Bool) → message.order_of (bit_or (flags.order_flag order) (bit_or (flags.flag_if is_final 2) (flags.flag_if live 4))) ≡ order
order_heartbeat Order.Big true true = refl
order_heartbeat Order.Big true false = refl
order_heartbeat Order.Big false true = refl
order_heartbeat Order.Big false false = refl
order_heartbeat Order.Little true true = refl
order_heartbeat Order.Little true false = refl
order_heartbeat Order.Little false true = refl
order_heartbeat Order.Little false false = refl

order_ack_nack : (order : Order) (is_final : Bool) → message.order_of (bit_or (flags.order_flag order) (flags.flag_if is_final 2)) ≡ order
order_ack_nack Order.Big true = refl
order_ack_nack Order.Big false = refl
order_ack_nack Order.Little true = refl
order_ack_nack Order.Little false = refl

order_time : (order : Order) (time : Option Stamp) → message.order_of (bit_or (flags.order_flag order) (written_bodies.info_ts_flags time)) ≡ order
order_time Order.Big None = refl
order_time Order.Big (Some stamp) = refl
order_time Order.Little None = refl
order_time Order.Little (Some stamp) = refl

pub order_same : (order : Order) (body : values.BodyValue) → message.order_of (written.written_flags order body) ≡ order
order_same order (values.BodyValue.Data body) = order_data order body.qos body.payload
order_same order (values.BodyValue.Heartbeat body) = order_heartbeat order body.is_final body.live
order_same order (values.BodyValue.AckNack body) = order_ack_nack order body.is_final
order_same order (values.BodyValue.Gap body) = order_plain order
order_same order (values.BodyValue.InfoTs time) = order_time order time
order_same order (values.BodyValue.InfoDst prefix) = order_plain order
order_same order (values.BodyValue.InfoSrc version vendor prefix) = order_plain order
order_same order (values.BodyValue.Skipped id) = order_plain order

-- a body that is not empty has the extent that is written
pub extent_some : (order : Order) (body : values.BodyValue) (left : ℕ) → 0 < length (written.written_body order body)
    → message.extent_of (written.written_id body) (length (written.written_body order body)) left ≡ length (written.written_body order body)
extent_some order body left some =
    let other : (length (written.written_body order body) == 0) ≡ false = positive_test (length (written.written_body order body)) some in rw other refl
  where
    positive_test : (size : ℕ) → 0 < size → (size == 0) ≡ false
    positive_test size some = grind (arith, nat_tests)
