-- The flags, the fields and the length of a HEARTBEAT that is written.
use Rattle.std.proofs.Common.{◌+◌, ◌≡◌, ℕ, ℤ, pos, Bool, true, false, length, refl, arith}
use Rattle.std.specs.Prelude.{bit_and, bit_or, not, ◌==◌}
use Rattle.std.proofs.lemmas.List.{length-append}
use Rattle.rtps_ids.specs.declared.identity.EntityId.{EntityId}
use Rattle.rtps_ids.specs.declared.order.Order.{Order}
use Rattle.rtps_ids.proofs.Offered.{length-octets_of, length-sequence_number_octets}
use Rattle.rtps_wire.specs.declared.body.HeartbeatBody.{HeartbeatBody}
use Rattle.rtps_write.specs.Flags as flags
use Rattle.rtps_write.specs.Held as held
use Rattle.rtps_write.specs.WrittenBodies as written_bodies

pub made : (reader reader' writer writer' : EntityId) (first first' : ℕ) (last last' : ℤ) (count count' : ℕ) (is_final is_final' live live' : Bool)
    → reader ≡ reader' → writer ≡ writer' → first ≡ first' → last ≡ last' → count ≡ count' → is_final ≡ is_final' → live ≡ live'
    → ◌≡◌ {A = HeartbeatBody}
    (record { reader = reader; writer = writer; first = first; last = last; count = count; is_final = is_final; live = live })
    (record { reader = reader'; writer = writer'; first = first'; last = last'; count = count'; is_final = is_final'; live = live' })
made reader reader' writer writer' first first' last last' count count' is_final is_final' live live' p q r s t u v = cc

pub final_flag : (order : Order) (is_final live : Bool) → not (bit_and (bit_or (flags.order_flag order) (bit_or (flags.flag_if is_final 2) (flags.flag_if live 4))) 2 == 0) ≡ is_final
final_flag Order.Big true true = refl
final_flag Order.Big true false = refl
final_flag Order.Big false true = refl
final_flag Order.Big false false = refl
final_flag Order.Little true true = refl
final_flag Order.Little true false = refl
final_flag Order.Little false true = refl
final_flag Order.Little false false = refl

pub live_flag : (order : Order) (is_final live : Bool) → not (bit_and (bit_or (flags.order_flag order) (bit_or (flags.flag_if is_final 2) (flags.flag_if live 4))) 4 == 0) ≡ live
live_flag Order.Big true true = refl
live_flag Order.Big true false = refl
live_flag Order.Big false true = refl
live_flag Order.Big false false = refl
live_flag Order.Little true true = refl
live_flag Order.Little true false = refl
live_flag Order.Little false true = refl
live_flag Order.Little false false = refl

pub heartbeat_parts : (order : Order) (body : HeartbeatBody) → length (written_bodies.heartbeat_octets order body) ≡ length body.reader.0 + (length body.writer.0 + 20)
heartbeat_parts order body =
    let f = length-sequence_number_octets order (pos body.first) in
    let l = length-sequence_number_octets order body.last in
    let c = length-octets_of order 4 body.count in
    omega (arith, length-append {A = ℕ})

pub heartbeat_long : (order : Order) (body : HeartbeatBody) → held.IsHeldHeartbeat body → length (written_bodies.heartbeat_octets order body) ≡ 28
heartbeat_long order body held =
    let r = held.reader in
    let w = held.writer in
    omega (arith, heartbeat_parts order body)
