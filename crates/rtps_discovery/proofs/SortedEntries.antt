-- Entries in the order of their GUIDs, by recursion and by the test of finite maps.
use Rattle.std.proofs.Common.{◌≡◌, Bool, true, false, cond, ◌&&◌, T, List, [], ◌∷◌, Some, refl, sym, ap, ◌∙◌}
use Rattle.std.specs.BTreeMap.{is_at}
use Rattle.std.specs.FinMap.{find, is_sorted}
use Rattle.std.specs.FinMap.Entries.{below_all, same_entries}
use Rattle.std.specs.List.{AllByRecursion}
use Rattle.std.specs.List.Sorted.{IsStrictlySortedBy}
use Rattle.std.specs.Map.{keys_of, lookup}
use Rattle.std.specs.Ordering.{eq_by_cmp, is_lt}
use Rattle.std.specs.declared.cmp.Ordering.{Ordering}
use Rattle.std.specs.declared.cmp.Ordering.TheVariants.{Less, Equal, Greater}
use Rattle.std.proofs.lemmas.Map.Keys.{sorted_head, sorted_tail}
use Rattle.rtps_ids.specs.declared.identity.Guid.{Guid}
use Rattle.rtps_discovery.specs.GuidOrder as guid_order
use Rattle.rtps_discovery.proofs.GuidLaws.{exact_guids, guids_total}

pub find-lookup : {X : Type 0} (guid : Guid) (es : List (Guid × X)) → find guid_order.guid_cmp guid es ≡ lookup (is_at (guid_order.guid_cmp guid)) es
find-lookup guid [] = refl
find-lookup guid (e ∷ es) = ap (λ found. cond (eq_by_cmp guid_order.guid_cmp guid e.0) (Some e.1) found) (find-lookup guid es)

both_hold : (a b : Bool) → a ≡ true → T b → T (a && b)
both_hold a b e h = rw e h

below : {X : Type 0} (guid : Guid) (es : List (Guid × X)) → AllByRecursion (λ other. guid_order.guid_cmp guid other ≡ Less) (keys_of es) → T (below_all guid_order.guid_cmp guid es)
below guid [] h = tt
below guid (e ∷ es) h = both_hold _ _ (ap is_lt h.0) (below guid es h.1)

all_hold : (a b : Bool) → T a → T b → T (a && b)
all_hold true b p q = q
all_hold false b p q = p

pub is_sorted-from_order : {X : Type 0} (es : List (Guid × X)) → IsStrictlySortedBy guid_order.guid_cmp (keys_of es) → T (is_sorted guid_order.guid_cmp es)
is_sorted-from_order [] h = tt
is_sorted-from_order (e ∷ es) h =
    all_hold _ _ (below e.0 es (sorted_head guid_order.guid_cmp e.0 (keys_of es) h)) (is_sorted-from_order es (sorted_tail guid_order.guid_cmp e.0 (keys_of es) h))

-- entries in order that have the same at each GUID are the same
pub same_by_lookup : {X : Type 0} (es fs : List (Guid × X)) → IsStrictlySortedBy guid_order.guid_cmp (keys_of es) → IsStrictlySortedBy guid_order.guid_cmp (keys_of fs)
    → ((guid : Guid) → lookup (is_at (guid_order.guid_cmp guid)) es ≡ lookup (is_at (guid_order.guid_cmp guid)) fs) → es ≡ fs
same_by_lookup es fs p q h =
    same_entries guid_order.guid_cmp guids_total exact_guids es fs (is_sorted-from_order es p) (is_sorted-from_order fs q) (λ guid. find-lookup guid es ∙ h guid ∙ sym (find-lookup guid fs))

-- and back: what the test passes is in order
first_holds : (a b : Bool) → T (a && b) → (a ≡ true) × T b
first_holds true b p = (refl, p)
first_holds false b p = absurd p

lt_is_less : (o : Ordering) → is_lt o ≡ true → o ≡ Less
lt_is_less Less e = refl
lt_is_less Equal e = cc
lt_is_less Greater e = cc

above : {X : Type 0} (guid : Guid) (es : List (Guid × X)) → T (below_all guid_order.guid_cmp guid es) → AllByRecursion (λ other. guid_order.guid_cmp guid other ≡ Less) (keys_of es)
above guid [] h = tt
above guid (e ∷ es) h = let p = first_holds _ _ h in (lt_is_less _ p.0, above guid es p.1)

true_holds : (a b : Bool) → T (a && b) → T a × T b
true_holds true b p = (tt, p)
true_holds false b p = absurd p

pub order-from_is_sorted : {X : Type 0} (es : List (Guid × X)) → T (is_sorted guid_order.guid_cmp es) → IsStrictlySortedBy guid_order.guid_cmp (keys_of es)
unfolding IsStrictlySortedBy
order-from_is_sorted [] h = tt
order-from_is_sorted (e ∷ es) h = let p = true_holds (below_all guid_order.guid_cmp e.0 es) (is_sorted guid_order.guid_cmp es) h in (above e.0 es p.0, order-from_is_sorted es p.1)
