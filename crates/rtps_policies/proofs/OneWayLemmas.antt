-- The list of who talks one way is that of a recording.
use Rattle.std.proofs.Common.{◌≡◌, ◌∙◌, ℕ, Bool, true, false, ◌&&◌, cond, if◌then◌else◌, Contains, List, [], ◌∷◌, ◌++◌, Option, Some, None, ap, append-nil, is_some, map, nat_lt, refl, subst, sym, unwrap_or}
use Rattle.std.specs.BTreeMap.{IsOrdered, get, is_at}
use Rattle.std.specs.Cmp.{IsTotalOrder}
use Rattle.std.specs.List.{AllByRecursion, cons_option}
use Rattle.std.specs.List.Sorted.{IsStrictlySortedBy}
use Rattle.std.specs.Map.{keys_of, lookup}
use Rattle.std.specs.declared.cmp.Ordering.TheVariants.{Less}
use Rattle.std.proofs.lemmas.Bool.{false≢true}
use Rattle.std.proofs.lemmas.Cmp.{nat_list_cmp_total, on_total, then_total}
use Rattle.std.proofs.lemmas.List.Elements.{All-contains}
use Rattle.std.proofs.lemmas.Map.Keys.{sorted_head, sorted_tail}
use Rattle.std.proofs.lemmas.Map.Views.{All-found, tells_apart}
use Rattle.rtps_policies.specs.Namings as namings_spec
use Rattle.rtps_policies.specs.OneWays as one_ways
use Rattle.rtps_policies.specs.Silence as silence
use Rattle.rtps_policies.specs.declared.naming.Naming.{Naming}
use Rattle.rtps_policies.specs.declared.naming.Namings.{Namings}
use Rattle.rtps_policies.specs.declared.one_way.OneWay.{OneWay}
use Rattle.rtps_policies.proofs.Members.{at_head, at_tail, from_filter_map, into_filter_map}
use Rattle.rtps_policies.proofs.NamingLemmas.{exact_namings}
use Rattle.rtps_policies.proofs.Sorted.{sorted_cons, sorted_nil}

namings_total : IsTotalOrder namings_spec.naming_cmp
namings_total = then_total (on_total (λ naming. naming.source.0) nat_list_cmp_total) (on_total (λ naming. naming.dest.0) nat_list_cmp_total)

-- a naming with its count, if it is listed
abbrev listed_if : Bool → Naming × ℕ → Option OneWay
listed_if is entry = if is then Some (record { naming = entry.0; count = entry.1 }) else None

-- ---- order

all_listed : (traffic : silence.Traffic) (P : Naming → Type 0) (entries : List (Naming × ℕ)) → AllByRecursion P (keys_of entries) → AllByRecursion P (map (λ one. one.naming) (one_ways.one_way_among traffic entries))
all_listed traffic P [] h = tt
all_listed traffic P (entry ∷ entries) h = by (silence.is_one_way traffic entry.0) (all_listed traffic P entries h.1)
  where
    by : (b : Bool) → AllByRecursion P (map (λ one. one.naming) (one_ways.one_way_among traffic entries))
        → AllByRecursion P (map (λ one. one.naming) (cons_option (listed_if b entry) (one_ways.one_way_among traffic entries)))
    by true rest = (h.0, rest)
    by false rest = rest

listed_in_order : (traffic : silence.Traffic) (entries : List (Naming × ℕ)) → IsStrictlySortedBy namings_spec.naming_cmp (keys_of entries) → IsStrictlySortedBy namings_spec.naming_cmp (map (λ one. one.naming) (one_ways.one_way_among traffic entries))
listed_in_order traffic [] h = sorted_nil namings_spec.naming_cmp
listed_in_order traffic (entry ∷ entries) h =
    by (silence.is_one_way traffic entry.0) (listed_in_order traffic entries (sorted_tail namings_spec.naming_cmp entry.0 (keys_of entries) h))
    (all_listed traffic (λ other. namings_spec.naming_cmp entry.0 other ≡ Less) entries (sorted_head namings_spec.naming_cmp entry.0 (keys_of entries) h))
  where
    by : (b : Bool) → IsStrictlySortedBy namings_spec.naming_cmp (map (λ one. one.naming) (one_ways.one_way_among traffic entries))
        → AllByRecursion (λ other. namings_spec.naming_cmp entry.0 other ≡ Less) (map (λ one. one.naming) (one_ways.one_way_among traffic entries))
        → IsStrictlySortedBy namings_spec.naming_cmp (map (λ one. one.naming) (cons_option (listed_if b entry) (one_ways.one_way_among traffic entries)))
    by true rest above = sorted_cons namings_spec.naming_cmp entry.0 (map (λ one. one.naming) (one_ways.one_way_among traffic entries)) above rest
    by false rest above = rest

-- ---- what is listed

-- what a listed one says of a recording
abbrev IsSaid : silence.Traffic → OneWay → Type 0
IsSaid traffic one = (silence.is_one_way traffic one.naming ≡ true) × (one.count ≡ namings_spec.named_in traffic.datagrams one.naming)

one_is : (traffic : silence.Traffic) (entry : Naming × ℕ) (one : OneWay) → one_ways.one_way_at traffic entry ≡ Some one → (silence.is_one_way traffic entry.0 ≡ true) × (record { naming = entry.0; count = entry.1 } ≡ one)
one_is traffic entry one made = by (silence.is_one_way traffic entry.0) refl made
  where
    by : (b : Bool) → silence.is_one_way traffic entry.0 ≡ b → listed_if b entry ≡ Some one → (silence.is_one_way traffic entry.0 ≡ true) × (record { naming = entry.0; count = entry.1 } ≡ one)
    by true is made = (is, ap (λ o. unwrap_or o one) made)
    by false is made = absurd (false≢true (ap is_some made))

said : (traffic : silence.Traffic) (namings : Namings) (one : OneWay) → namings_spec.AreNamingsOf traffic.datagrams namings → IsOrdered namings_spec.naming_cmp namings.counts
    → Contains (one_ways.one_way_among traffic namings.counts.entries) one → IsSaid traffic one
said traffic namings one counted ordered c =
    let m = from_filter_map (one_ways.one_way_at traffic) namings.counts.entries one c in
    let is = one_is traffic m.0 one m.2 in
    let found = All-contains (λ entry. get namings_spec.naming_cmp namings.counts entry.0 ≡ Some entry.1) namings.counts.entries m.0 (All-found namings_total namings.counts ordered) m.1 in
    subst (IsSaid traffic) is.1 (is.0, sym (ap (λ o. unwrap_or o 0) found) ∙ counted m.0.0)

-- the entry that a look-up finds
from_lookup : (naming : Naming) (entries : List (Naming × ℕ)) (count : ℕ) → lookup (is_at (namings_spec.naming_cmp naming)) entries ≡ Some count → Contains entries (naming, count)
from_lookup naming [] count found = absurd (false≢true (ap is_some found))
from_lookup naming (entry ∷ entries) count found = by (is_at (namings_spec.naming_cmp naming) entry.0) refl found (from_lookup naming entries count)
  where
    by : (b : Bool) → is_at (namings_spec.naming_cmp naming) entry.0 ≡ b → cond b (Some entry.1) (lookup (is_at (namings_spec.naming_cmp naming)) entries) ≡ Some count
        → (lookup (is_at (namings_spec.naming_cmp naming)) entries ≡ Some count → Contains entries (naming, count)) → Contains (entry ∷ entries) (naming, count)
    by true same is onward =
        subst (λ n. Contains (entry ∷ entries) (naming, n)) (ap (λ o. unwrap_or o count) is)
        (subst (λ k. Contains (entry ∷ entries) (k, entry.1)) (sym (tells_apart exact_namings naming entry.0 same)) (at_head entry entries))
    by false other is onward = at_tail entry (naming, count) entries (onward is)

left_true : (a b : Bool) → (a && b) ≡ true → a ≡ true
left_true true b e = refl
left_true false b e = e

-- a naming that is counted has an entry
has_entry : (naming : Naming) (entries : List (Naming × ℕ)) (count : ℕ) → nat_lt 0 count ≡ true → unwrap_or (lookup (is_at (namings_spec.naming_cmp naming)) entries) 0 ≡ count → Contains entries (naming, count)
has_entry naming entries count some is = by (lookup (is_at (namings_spec.naming_cmp naming)) entries) refl is
  where
    by : (found : Option ℕ) → lookup (is_at (namings_spec.naming_cmp naming)) entries ≡ found → unwrap_or found 0 ≡ count → Contains entries (naming, count)
    by None found is = absurd (false≢true (ap (nat_lt 0) is ∙ some))
    by (Some n) found is = from_lookup naming entries count (found ∙ ap (λ x. Some x) is)

is_listed : (traffic : silence.Traffic) (namings : Namings) (one : OneWay) → namings_spec.AreNamingsOf traffic.datagrams namings → IsSaid traffic one → Contains (one_ways.one_way_among traffic namings.counts.entries) one
is_listed traffic namings one counted is =
    let some = left_true (nat_lt 0 (namings_spec.named_in traffic.datagrams one.naming)) _ is.0 in
    let entry = has_entry one.naming namings.counts.entries one.count (ap (nat_lt 0) is.1 ∙ some) (counted one.naming ∙ sym is.1) in
    into_filter_map (one_ways.one_way_at traffic) namings.counts.entries (one.naming, one.count) one entry (ap (λ b. listed_if b (one.naming, one.count)) is.0)

pub listed : (traffic : silence.Traffic) (namings : Namings) (found : List OneWay) → namings_spec.AreNamingsOf traffic.datagrams namings → IsOrdered namings_spec.naming_cmp namings.counts
    → found ++ [] ≡ one_ways.one_way_among traffic namings.counts.entries → one_ways.AreOneWayIn traffic found
listed traffic namings found counted ordered is =
    let same : one_ways.one_way_among traffic namings.counts.entries ≡ found = sym is ∙ append-nil found in
    subst (one_ways.AreOneWayIn traffic) same
    (record {
      in_order = listed_in_order traffic namings.counts.entries ordered;
      each = λ one. (said traffic namings one counted ordered, is_listed traffic namings one counted);
    })
