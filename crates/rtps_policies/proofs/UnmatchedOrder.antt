-- What does not match is listed by writer and then by reader.
use Rattle.std.proofs.Common.{◌≡◌, List, [], ◌∷◌, Option, None, Some, ap, ap₂, flat_map, map, refl, subst, sym}
use Rattle.std.specs.List.{AllByRecursion, cons_option}
use Rattle.std.specs.List.Sorted.{IsStrictlySortedBy}
use Rattle.std.specs.Ordering.{ordering_then}
use Rattle.std.specs.declared.cmp.Ordering.{Ordering}
use Rattle.std.specs.declared.cmp.Ordering.TheVariants.{Less}
use Rattle.std.proofs.lemmas.Cmp.{tied_itself}
use Rattle.std.proofs.lemmas.List.{map-append}
use Rattle.std.proofs.lemmas.Map.Keys.{sorted_head, sorted_tail}
use Rattle.rtps_ids.specs.declared.identity.Guid.{Guid}
use Rattle.rtps_receiver.specs.Values as values
use Rattle.rtps_discovery.specs.Endpoint as endpoint
use Rattle.rtps_discovery.specs.GuidOrder as guid_order
use Rattle.rtps_discovery.specs.Listings as listings
use Rattle.rtps_discovery.specs.declared.matching.Pair.{Pair}
use Rattle.rtps_policies.specs.Announcing as announcing
use Rattle.rtps_policies.specs.Fitting as fitting
use Rattle.rtps_policies.specs.Unmatched as unmatched
use Rattle.rtps_policies.proofs.GuidLemmas.{guids_total}
use Rattle.rtps_policies.proofs.Sorted.{all_append, all_weaker, sorted_append, sorted_cons, sorted_nil}
use Rattle.rtps_policies.proofs.UnmatchedLaws.{is_given, made_by}

abbrev guid_of : fitting.ProfileValue → Guid
guid_of profile = profile.endpoint.guid

abbrev pair_with : Guid → Guid → Pair
pair_with writer reader = record { writer = writer; reader = reader }

own_pair : (writer reader : fitting.ProfileValue) (one : unmatched.UnmatchedValue) → unmatched.unmatched_of writer reader ≡ Some one → unmatched.pair_of one ≡ pair_with (guid_of writer) (guid_of reader)
own_pair writer reader one made =
    let is = is_given writer reader (fitting.reasons writer reader) one (made_by writer reader one made).1 in
    ap₂ (λ (w r : fitting.ProfileValue). pair_with (guid_of w) (guid_of r)) is.writer_is is.reader_is

-- ---- the pairs of one writer

all_own : (P : Pair → Type 0) (writer : fitting.ProfileValue) (readers : List fitting.ProfileValue) → AllByRecursion (λ reader. P (pair_with (guid_of writer) (guid_of reader))) readers
    → AllByRecursion P (map unmatched.pair_of (unmatched.unmatched_with writer readers))
all_own P writer [] h = tt
all_own P writer (reader ∷ readers) h = by (unmatched.unmatched_of writer reader) refl (all_own P writer readers h.1)
  where
    by : (o : Option unmatched.UnmatchedValue) → unmatched.unmatched_of writer reader ≡ o → AllByRecursion P (map unmatched.pair_of (unmatched.unmatched_with writer readers))
        → AllByRecursion P (map unmatched.pair_of (cons_option o (unmatched.unmatched_with writer readers)))
    by None made rest = rest
    by (Some one) made rest = (subst P (sym (own_pair writer reader one made)) h.0, rest)

above : (writer : fitting.ProfileValue) (guid : Guid) (readers : List fitting.ProfileValue) → AllByRecursion (λ other. guid_order.guid_cmp guid other ≡ Less) (map guid_of readers)
    → AllByRecursion (λ reader. listings.pair_cmp (pair_with (guid_of writer) guid) (pair_with (guid_of writer) (guid_of reader)) ≡ Less) readers
above writer guid [] h = tt
above writer guid (reader ∷ readers) h = (rw (tied_itself guids_total (guid_of writer)) h.0, above writer guid readers h.1)

one_writer : (writer : fitting.ProfileValue) (readers : List fitting.ProfileValue) → IsStrictlySortedBy guid_order.guid_cmp (map guid_of readers) → IsStrictlySortedBy listings.pair_cmp (map unmatched.pair_of (unmatched.unmatched_with writer readers))
one_writer writer [] h = sorted_nil listings.pair_cmp
one_writer writer (reader ∷ readers) h =
    by (unmatched.unmatched_of writer reader) refl (one_writer writer readers (sorted_tail guid_order.guid_cmp (guid_of reader) (map guid_of readers) h))
    (all_own (λ pair. listings.pair_cmp (pair_with (guid_of writer) (guid_of reader)) pair ≡ Less) writer readers (above writer (guid_of reader) readers (sorted_head guid_order.guid_cmp (guid_of reader) (map guid_of readers) h)))
  where
    by : (o : Option unmatched.UnmatchedValue) → unmatched.unmatched_of writer reader ≡ o → IsStrictlySortedBy listings.pair_cmp (map unmatched.pair_of (unmatched.unmatched_with writer readers))
        → AllByRecursion (λ pair. listings.pair_cmp (pair_with (guid_of writer) (guid_of reader)) pair ≡ Less) (map unmatched.pair_of (unmatched.unmatched_with writer readers))
        → IsStrictlySortedBy listings.pair_cmp (map unmatched.pair_of (cons_option o (unmatched.unmatched_with writer readers)))
    by None made rest lower = rest
    by (Some one) made rest lower =
        sorted_cons listings.pair_cmp (unmatched.pair_of one) (map unmatched.pair_of (unmatched.unmatched_with writer readers))
        (subst (λ first. AllByRecursion (λ pair. listings.pair_cmp first pair ≡ Less) (map unmatched.pair_of (unmatched.unmatched_with writer readers))) (sym (own_pair writer reader one made)) lower) rest

-- ---- one writer after another

of_all : (P : fitting.ProfileValue → Type 0) → ((profile : fitting.ProfileValue) → P profile) → (profiles : List fitting.ProfileValue) → AllByRecursion P profiles
of_all P all [] = tt
of_all P all (profile ∷ profiles) = (all profile, of_all P all profiles)

its_own : (writer : fitting.ProfileValue) (readers : List fitting.ProfileValue) → AllByRecursion (λ pair. pair.writer ≡ guid_of writer) (map unmatched.pair_of (unmatched.unmatched_with writer readers))
its_own writer readers = all_own (λ pair. pair.writer ≡ guid_of writer) writer readers (of_all (λ reader. guid_of writer ≡ guid_of writer) (λ reader. refl) readers)

writers_above : (guid : Guid) (all profiles : List fitting.ProfileValue) → AllByRecursion (λ other. guid_order.guid_cmp guid other ≡ Less) (map guid_of profiles)
    → AllByRecursion (λ pair. guid_order.guid_cmp guid pair.writer ≡ Less) (map unmatched.pair_of (flat_map (λ writer. unmatched.unmatched_with writer all) profiles))
writers_above guid all [] h = tt
writers_above guid all (profile ∷ profiles) h =
    rw (map-append unmatched.pair_of (unmatched.unmatched_with profile all) (flat_map (λ writer. unmatched.unmatched_with writer all) profiles))
    (all_append _ _ _ (all_weaker (λ pair. pair.writer ≡ guid_of profile) (λ pair. guid_order.guid_cmp guid pair.writer ≡ Less) (λ pair e. rw e h.0) _ (its_own profile all)) (writers_above guid all profiles h.1))

first_decides : (o p : Ordering) → o ≡ Less → ordering_then o p ≡ Less
first_decides o p e = rw e refl

pair_below : (a b : Pair) (guid : Guid) → a.writer ≡ guid → guid_order.guid_cmp guid b.writer ≡ Less → listings.pair_cmp a b ≡ Less
pair_below a b guid e h = first_decides (guid_order.guid_cmp a.writer b.writer) (guid_order.guid_cmp a.reader b.reader) (rw e h)

in_turn : (all profiles : List fitting.ProfileValue) → IsStrictlySortedBy guid_order.guid_cmp (map guid_of all) → IsStrictlySortedBy guid_order.guid_cmp (map guid_of profiles)
    → IsStrictlySortedBy listings.pair_cmp (map unmatched.pair_of (flat_map (λ writer. unmatched.unmatched_with writer all) profiles))
in_turn all [] h k = sorted_nil listings.pair_cmp
in_turn all (profile ∷ profiles) h k =
    let later = writers_above (guid_of profile) all profiles (sorted_head guid_order.guid_cmp (guid_of profile) (map guid_of profiles) k) in
    rw (map-append unmatched.pair_of (unmatched.unmatched_with profile all) (flat_map (λ writer. unmatched.unmatched_with writer all) profiles))
    (sorted_append listings.pair_cmp _ _ (one_writer profile all h) (in_turn all profiles h (sorted_tail guid_order.guid_cmp (guid_of profile) (map guid_of profiles) k))
    (all_weaker (λ pair. pair.writer ≡ guid_of profile) _ (λ pair e. all_weaker _ (λ other. listings.pair_cmp pair other ≡ Less) (λ other lt. pair_below pair other (guid_of profile) e lt) _ later)
    _ (its_own profile all)))

-- profiles have the GUIDs of their endpoints
same_guids : (acts : List values.ActValue) (endpoints : List endpoint.EndpointValue) → map guid_of (map (announcing.profile_among acts) endpoints) ≡ map (λ endpoint. endpoint.guid) endpoints
same_guids acts [] = refl
same_guids acts (endpoint ∷ endpoints) = ap (λ guids. endpoint.guid ∷ guids) (same_guids acts endpoints)

pub unmatched_in_order : (acts : List values.ActValue) (settled : List endpoint.EndpointValue) → IsStrictlySortedBy guid_order.guid_cmp (map (λ endpoint. endpoint.guid) settled)
    → IsStrictlySortedBy listings.pair_cmp (map unmatched.pair_of (unmatched.unmatched_among acts settled))
unmatched_in_order acts settled h =
    let profiles = map (announcing.profile_among acts) settled in
    let sorted = subst (IsStrictlySortedBy guid_order.guid_cmp) (sym (same_guids acts settled)) h in
    in_turn profiles profiles sorted sorted
