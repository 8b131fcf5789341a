-- The flags, the fields and the length of an ACKNACK that is written.
use Rattle.std.proofs.Common.{◌≡◌, ◌+◌, ℕ, Bool, true, false, length, refl, arith}
use Rattle.std.specs.Prelude.{◌==◌, bit_and, bit_or, not}
use Rattle.std.proofs.lemmas.List.{length-append}
use Rattle.rtps_ids.proofs.Offered.{length-octets_of}
use Rattle.rtps_ids.specs.NumberSet as number_set
use Rattle.rtps_ids.specs.declared.identity.EntityId.{EntityId}
use Rattle.rtps_ids.specs.declared.order.Order.{Order}
use Rattle.rtps_wire.specs.declared.body.AckNackBody.{AckNackBody}
use Rattle.rtps_write.proofs.WrittenSets.{length-set_octets}
use Rattle.rtps_write.specs.WrittenBodies as written_bodies
use Rattle.rtps_write.specs.Flags as flags
use Rattle.rtps_write.specs.Held as held

pub made : (reader reader' writer writer' : EntityId) (set set' : number_set.NumberSetValue) (count count' : ℕ) (is_final is_final' : Bool)
    → reader ≡ reader' → writer ≡ writer' → set ≡ set' → count ≡ count' → is_final ≡ is_final'
    → ◌≡◌ {A = AckNackBody}
    (record { reader = reader; writer = writer; set = set; count = count; is_final = is_final })
    (record { reader = reader'; writer = writer'; set = set'; count = count'; is_final = is_final' })
made reader reader' writer writer' set set' count count' is_final is_final' p q r s t = cc

pub final_flag : (order : Order) (is_final : Bool) → not (bit_and (bit_or (flags.order_flag order) (flags.flag_if is_final 2)) 2 == 0) ≡ is_final
final_flag Order.Big true = refl
final_flag Order.Big false = refl
final_flag Order.Little true = refl
final_flag Order.Little false = refl

pub ack_nack_long : (order : Order) (body : AckNackBody) → held.IsHeldAckNack body → length (written_bodies.ack_nack_octets order body) ≡ 12 + number_set.octets_of_count body.set.count
ack_nack_long order body held =
    let r = held.reader in
    let w = held.writer in
    let s = length-set_octets order body.set held.set in
    let c = length-octets_of order 4 body.count in
    omega (arith, length-append {A = ℕ})
