-- Fields of written octets, found at their places.
use Rattle.std.proofs.Common.{◌≡◌, ◌<◌, ◌+◌, ◌^◌, ℕ, ℤ, pos, List, ◌++◌, length, take, drop, refl, ap, sym, ◌∙◌, arith}
use Rattle.std.specs.Prelude.{◌≤ℤ◌, ◌<ℤ◌}
use Rattle.std.proofs.lemmas.Int.{ints}
use Rattle.std.proofs.lemmas.List.{drop-drop, drop_at, take_at}
use Rattle.rtps_ids.specs.Octets as octets_spec
use Rattle.rtps_ids.specs.declared.identity.EntityId.{EntityId}
use Rattle.rtps_ids.specs.declared.identity.Vendor.{Vendor}
use Rattle.rtps_ids.specs.declared.order.Order.{Order}
use Rattle.rtps_ids.proofs.Offered.{length-octets_of, length-sequence_number_octets, number-octets_of, sequence_number-octets}
use Rattle.rtps_wire.specs.Fields as fields

-- behind a field that is passed over
pub past : (field rest : List ℕ) (at more : ℕ) → length field + more ≡ at → drop at (field ++ rest) ≡ drop more rest
past field rest at more is =
    ap (λ n. drop n (field ++ rest)) (sym is) ∙ (sym (drop-drop more (length field) (field ++ rest)) ∙ ap (drop more) (drop_at field rest (length field) refl))

-- the octets of a field, by what stands at its place
pub taken : (field rest octets : List ℕ) (width : ℕ) → length field ≡ width → octets ≡ field ++ rest → take width octets ≡ field
taken field rest octets width is at = ap (take width) at ∙ take_at field rest width is

pub entity_read : (entity : EntityId) (at : ℕ) (rest octets : List ℕ) → length entity.0 ≡ 4 → drop at octets ≡ entity.0 ++ rest → fields.entity_at at octets ≡ entity
entity_read entity at rest octets is found =
    let made : List ℕ → EntityId = λ xs. record { 0 = xs } in
    ap made (taken entity.0 rest (drop at octets) 4 is found)

pub vendor_read : (vendor : Vendor) (at : ℕ) (rest octets : List ℕ) → length vendor.0 ≡ 2 → drop at octets ≡ vendor.0 ++ rest → fields.vendor_at at octets ≡ vendor
vendor_read vendor at rest octets is found =
    let made : List ℕ → Vendor = λ xs. record { 0 = xs } in
    ap made (taken vendor.0 rest (drop at octets) 2 is found)

pub word_read : (order : Order) (value : ℕ) (rest octets : List ℕ) → value < 2 ^ 32 → octets ≡ octets_spec.octets_of order 4 value ++ rest → octets_spec.number_of order 4 octets ≡ value
word_read order value rest octets small found = ap (octets_spec.number_of order 4) found ∙ number-octets_of order 4 value rest small

pub sequence_number_read : (order : Order) (value : ℤ) (rest octets : List ℕ) → pos 0 ≤ℤ value → value <ℤ pos (2 ^ 63) → octets ≡ octets_spec.sequence_number_octets order value ++ rest
    → octets_spec.sequence_number_of order octets ≡ value
sequence_number_read order value rest octets low high found = ap (octets_spec.sequence_number_of order) found ∙ sequence_number-octets order value rest (omega (arith, ints))

-- how long written numbers are, for tactics
pub ruleset lengths = (length-octets_of, length-sequence_number_octets)
