-- The fields and the length of a GAP that is written.
use Rattle.std.proofs.Common.{◌≡◌, ◌+◌, ℕ, pos, length, arith}
use Rattle.std.proofs.lemmas.List.{length-append}
use Rattle.rtps_ids.proofs.Offered.{length-sequence_number_octets}
use Rattle.rtps_ids.specs.NumberSet as number_set
use Rattle.rtps_ids.specs.declared.identity.EntityId.{EntityId}
use Rattle.rtps_ids.specs.declared.order.Order.{Order}
use Rattle.rtps_wire.specs.declared.body.GapBody.{GapBody}
use Rattle.rtps_write.proofs.WrittenSets.{length-set_octets}
use Rattle.rtps_write.specs.WrittenBodies as written_bodies
use Rattle.rtps_write.specs.Held as held

pub made : (reader reader' writer writer' : EntityId) (start start' : ℕ) (list list' : number_set.NumberSetValue)
    → reader ≡ reader' → writer ≡ writer' → start ≡ start' → list ≡ list'
    → ◌≡◌ {A = GapBody}
    (record { reader = reader; writer = writer; start = start; list = list })
    (record { reader = reader'; writer = writer'; start = start'; list = list' })
made reader reader' writer writer' start start' list list' p q r s = cc

pub gap_long : (order : Order) (body : GapBody) → held.IsHeldGap body → length (written_bodies.gap_octets order body) ≡ 16 + number_set.octets_of_count body.list.count
gap_long order body held =
    let r = held.reader in
    let w = held.writer in
    let s = length-sequence_number_octets order (pos body.start) in
    let l = length-set_octets order body.list held.list in
    omega (arith, length-append {A = ℕ})
