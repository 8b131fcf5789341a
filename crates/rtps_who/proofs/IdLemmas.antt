-- GUIDs that compare alike are one. The order of prefixes is total, and those that compare alike are one.
use Rattle.std.proofs.Common.{◌≡◌, ◌∙◌, Bool, true, false, ℕ, List, ap, refl, sym}
use Rattle.std.specs.BTreeMap.{is_at}
use Rattle.std.specs.Cmp.{IsTotalOrder, eq_by_cmp_equiv}
use Rattle.std.specs.Cmp.Lexicographic.{slice_cmp}
use Rattle.std.specs.Ordering.{nat_cmp}
use Rattle.std.proofs.lemmas.Bool.{false≢true}
use Rattle.std.proofs.lemmas.Cmp.{nat_list_cmp_total, on_total}
use Rattle.std.proofs.lemmas.Map.Lookups.{CmpEqualImpliesEq, exact_bytes, exact_pairs}
use Rattle.std.proofs.lemmas.Map.Views.{tells_apart}
use Rattle.rtps_ids.specs.declared.identity.Guid.{Guid}
use Rattle.rtps_ids.specs.declared.identity.GuidPrefix.{GuidPrefix}
use Rattle.rtps_discovery.specs.GuidOrder as guid_order
use Rattle.rtps_discovery.proofs.Offered.{guids_total}
use Rattle.rtps_who.specs.Introducing as introducing

guid_of_parts : List ℕ × List ℕ → Guid
guid_of_parts parts = record { prefix = record { 0 = parts.0 }; entity = record { 0 = parts.1 } }

pub exact_guids : CmpEqualImpliesEq guid_order.guid_cmp
unfolding guid_of_parts
exact_guids a b h =
    ap guid_of_parts (exact_pairs (slice_cmp nat_cmp) (slice_cmp nat_cmp) exact_bytes exact_bytes (a.prefix.0, a.entity.0) (b.prefix.0, b.entity.0) h)

pub prefixes_total : IsTotalOrder introducing.prefix_cmp
prefixes_total = on_total (λ prefix. prefix.0) nat_list_cmp_total

prefix_of : List ℕ → GuidPrefix
prefix_of octets = record { 0 = octets }

pub exact_prefixes : CmpEqualImpliesEq introducing.prefix_cmp
unfolding prefix_of
exact_prefixes a b h = ap prefix_of (exact_bytes a.0 b.0 h)

-- one prefix is the other exactly where the other is the one
pub prefixes_alike : (one other : GuidPrefix) → is_at (introducing.prefix_cmp one) other ≡ is_at (introducing.prefix_cmp other) one
prefixes_alike one other = by (is_at (introducing.prefix_cmp one) other) (is_at (introducing.prefix_cmp other) one) refl refl
  where
    by : (there back : Bool) → is_at (introducing.prefix_cmp one) other ≡ there → is_at (introducing.prefix_cmp other) one ≡ back → there ≡ back
    by true true e f = refl
    by false false e f = refl
    by true false e f =
        let same : one ≡ other = tells_apart exact_prefixes one other e in
        absurd (false≢true (sym f ∙ ap (λ p. is_at (introducing.prefix_cmp other) p) same ∙ (eq_by_cmp_equiv prefixes_total).refl other))
    by false true e f =
        let same : other ≡ one = tells_apart exact_prefixes other one f in
        absurd (false≢true (sym e ∙ ap (λ p. is_at (introducing.prefix_cmp one) p) same ∙ (eq_by_cmp_equiv prefixes_total).refl one))

-- one GUID is the other exactly where the other is the one
pub guids_alike : (one other : Guid) → is_at (guid_order.guid_cmp one) other ≡ is_at (guid_order.guid_cmp other) one
guids_alike one other = by (is_at (guid_order.guid_cmp one) other) (is_at (guid_order.guid_cmp other) one) refl refl
  where
    by : (there back : Bool) → is_at (guid_order.guid_cmp one) other ≡ there → is_at (guid_order.guid_cmp other) one ≡ back → there ≡ back
    by true true e f = refl
    by false false e f = refl
    by true false e f =
        let same : one ≡ other = tells_apart exact_guids one other e in
        absurd (false≢true (sym f ∙ ap (λ p. is_at (guid_order.guid_cmp other) p) same ∙ (eq_by_cmp_equiv guids_total).refl other))
    by false true e f =
        let same : other ≡ one = tells_apart exact_guids other one f in
        absurd (false≢true (sym e ∙ ap (λ p. is_at (guid_order.guid_cmp one) p) same ∙ (eq_by_cmp_equiv guids_total).refl one))
