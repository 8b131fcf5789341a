-- The order of GUIDs is total, and GUIDs that compare alike are one.
use Rattle.std.proofs.Common.{ℕ, List, ap}
use Rattle.std.specs.Cmp.{IsTotalOrder}
use Rattle.std.specs.Cmp.Lexicographic.{slice_cmp}
use Rattle.std.specs.Ordering.{nat_cmp}
use Rattle.std.proofs.lemmas.Cmp.{nat_list_cmp_total, on_total, then_total}
use Rattle.std.proofs.lemmas.Map.Lookups.{CmpEqualImpliesEq, exact_bytes, exact_pairs}
use Rattle.rtps_ids.specs.declared.identity.Guid.{Guid}
use Rattle.rtps_discovery.specs.GuidOrder as guid_order

pub guids_total : IsTotalOrder guid_order.guid_cmp
guids_total = then_total (on_total (λ guid. guid.prefix.0) nat_list_cmp_total) (on_total (λ guid. guid.entity.0) nat_list_cmp_total)

guid_of_parts : List ℕ × List ℕ → Guid
guid_of_parts parts = record { prefix = record { 0 = parts.0 }; entity = record { 0 = parts.1 } }

pub exact_guids : CmpEqualImpliesEq guid_order.guid_cmp
unfolding guid_of_parts
exact_guids a b h =
    ap guid_of_parts (exact_pairs (slice_cmp nat_cmp) (slice_cmp nat_cmp) exact_bytes exact_bytes (a.prefix.0, a.entity.0) (b.prefix.0, b.entity.0) h)
