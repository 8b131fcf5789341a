-- The fields and the length of an INFO_TS that is written.
use Rattle.std.proofs.Common.{◌≡◌, ℕ, Some, length, arith}
use Rattle.std.proofs.lemmas.List.{length-append}
use Rattle.rtps_ids.specs.declared.identity.Stamp.{Stamp}
use Rattle.rtps_ids.specs.Octets as octets
use Rattle.rtps_ids.specs.declared.order.Order.{Order}
use Rattle.rtps_ids.proofs.Offered.{length-octets_of}
use Rattle.rtps_write.specs.WrittenBodies as written_bodies

pub stamp_made : (seconds seconds' fraction fraction' : ℕ) → seconds ≡ seconds' → fraction ≡ fraction'
    → ◌≡◌ {A = Stamp} (record { seconds = seconds; fraction = fraction }) (record { seconds = seconds'; fraction = fraction' })
stamp_made seconds seconds' fraction fraction' p q = cc

pub info_ts_long : (order : Order) (stamp : Stamp) → length (written_bodies.info_ts_octets order (Some stamp)) ≡ 8
info_ts_long order stamp = omega (arith, length-append (octets.octets_of order 4 stamp.seconds) (octets.octets_of order 4 stamp.fraction), length-octets_of order 4 stamp.seconds, length-octets_of order 4 stamp.fraction)
