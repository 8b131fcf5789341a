-- What is listed as a match and as a pair, and in which order.
use Rattle.std.proofs.Common.{◌≡◌, ◌↔◌, Bool, true, false, cond, ◌&&◌, List, [], ◌∷◌, ◌++◌, map, filter, flat_map, get_or, Option, Some, None, Contains, IfSome, refl, sym, ap, subst, ◌∙◌}
use Rattle.std.specs.List.{All, AllByRecursion, cons_option}
use Rattle.std.specs.List.Sorted.{IsStrictlySortedBy}
use Rattle.std.specs.Map.{keys_of}
use Rattle.std.specs.Option.{is_none, is_some}
use Rattle.std.specs.Ordering.{ordering_then}
use Rattle.std.specs.declared.cmp.Ordering.{Ordering}
use Rattle.std.specs.declared.cmp.Ordering.TheVariants.{Less}
use Rattle.std.proofs.lemmas.Bool.{false≢true}
use Rattle.std.proofs.lemmas.Cmp.{tied_itself}
use Rattle.std.proofs.lemmas.List.{map-append}
use Rattle.std.proofs.lemmas.List.Elements.{Contains-get_or, recursion_from_All}
use Rattle.std.proofs.lemmas.Map.Keys.{sorted_head, sorted_tail}
use Rattle.rtps_ids.specs.declared.identity.Guid.{Guid}
use Rattle.rtps_discovery.specs.Directory as directory
use Rattle.rtps_discovery.specs.Endpoint as endpoint_spec
use Rattle.rtps_discovery.specs.GuidOrder as guid_order
use Rattle.rtps_discovery.specs.Listings as listings
use Rattle.rtps_discovery.specs.Matching as matching
use Rattle.rtps_discovery.specs.declared.endpoint.Reliability.{Reliability}
use Rattle.rtps_discovery.specs.declared.matching.Match.{Match}
use Rattle.rtps_discovery.specs.declared.matching.Pair.{Pair}
use Rattle.rtps_discovery.proofs.GuidLaws.{guids_total}
use Rattle.rtps_discovery.proofs.MapLaws.{entry_of, settled_listed}
use Rattle.rtps_discovery.proofs.Matched.{is_match_decides}
use Rattle.rtps_discovery.proofs.Members.{from_filter, from_flat_map, from_map, into_filter, into_flat_map, into_map}

-- ---- matches
pub match_listed : (announced : List endpoint_spec.EndpointValue) (entries : directory.Entries) (found : Match) → directory.AreEntries announced entries
    → Contains (matching.matches_among (directory.settled_in entries)) found ↔ listings.IsMatchAmong announced found
match_listed announced entries found h = (there, back)
  where
    there : Contains (matching.matches_among (directory.settled_in entries)) found → listings.IsMatchAmong announced found
    there c =
        let settled = directory.settled_in entries in
        let w = from_flat_map (λ writer. matching.matches_of writer settled) settled found c in
        let r = from_map (matching.match_of w.0) (filter (matching.is_match w.0) settled) found w.2 in
        let m = from_filter (matching.is_match w.0) settled r.0 r.1 in
        record {
          writer = w.0;
          reader = r.0;
          writer_settled = (settled_listed announced entries w.0 h).0 w.1;
          reader_settled = (settled_listed announced entries r.0 h).0 m.0;
          they_match = (is_match_decides w.0 r.0).0 m.1;
          is_theirs = sym r.2;
        }

    back : listings.IsMatchAmong announced found → Contains (matching.matches_among (directory.settled_in entries)) found
    back m =
        let settled = directory.settled_in entries in
        let writer = (settled_listed announced entries m.writer h).1 m.writer_settled in
        let reader = (settled_listed announced entries m.reader h).1 m.reader_settled in
        into_flat_map (λ writer. matching.matches_of writer settled) settled m.writer found writer
        (subst (λ x. Contains (matching.matches_of m.writer settled) x) (sym m.is_theirs)
        (into_map (matching.match_of m.writer) (filter (matching.is_match m.writer) settled) m.reader
        (into_filter (matching.is_match m.writer) settled m.reader reader ((is_match_decides m.writer m.reader).1 m.they_match))))

reliable_is : (reliability : Reliability) → matching.is_reliable reliability ≡ true → reliability ≡ Reliability.Reliable
reliable_is Reliability.BestEffort e = absurd (false≢true e)
reliable_is Reliability.Reliable e = refl

both_reliable : (a b : Reliability) → (matching.is_reliable a && matching.is_reliable b) ≡ true → (a ≡ Reliability.Reliable) × (b ≡ Reliability.Reliable)
both_reliable Reliability.BestEffort b e = absurd (false≢true e)
both_reliable Reliability.Reliable b e = (refl, reliable_is b e)

pub pair_listed : (announced : List endpoint_spec.EndpointValue) (entries : directory.Entries) (pair : Pair) → directory.AreEntries announced entries
    → Contains (matching.reliable_pairs (matching.matches_among (directory.settled_in entries))) pair ↔ listings.IsReliablePair announced pair
pair_listed announced entries pair h = (there, back)
  where
    there : Contains (matching.reliable_pairs (matching.matches_among (directory.settled_in entries))) pair → listings.IsReliablePair announced pair
    there c =
        let all = matching.matches_among (directory.settled_in entries) in
        let f = from_map (λ found. found.pair) (filter (λ found. found.reliable) all) pair c in
        let r = from_filter (λ found. found.reliable) all f.0 f.1 in
        let m = (match_listed announced entries f.0 h).0 r.0 in
        let reliable = both_reliable m.writer.reliability m.reader.reliability (sym (ap (λ (x : Match). x.reliable) m.is_theirs) ∙ r.1) in
        record {
          writer = m.writer;
          reader = m.reader;
          writer_settled = m.writer_settled;
          reader_settled = m.reader_settled;
          they_match = m.they_match;
          writer_reliable = reliable.0;
          reader_reliable = reliable.1;
          is_theirs = sym f.2 ∙ ap (λ (x : Match). x.pair) m.is_theirs;
        }

    back : listings.IsReliablePair announced pair → Contains (matching.reliable_pairs (matching.matches_among (directory.settled_in entries))) pair
    back p =
        let all = matching.matches_among (directory.settled_in entries) in
        let found = matching.match_of p.writer p.reader in
        let m : listings.IsMatchAmong announced found =
        record { writer = p.writer; reader = p.reader; writer_settled = p.writer_settled; reader_settled = p.reader_settled; they_match = p.they_match; is_theirs = refl } in
        let reliable : (matching.is_reliable p.writer.reliability && matching.is_reliable p.reader.reliability) ≡ true = rw (p.writer_reliable, p.reader_reliable) refl in
        subst (λ x. Contains (matching.reliable_pairs all) x) (sym p.is_theirs)
        (into_map (λ found. found.pair) (filter (λ found. found.reliable) all) found
        (into_filter (λ found. found.reliable) all found ((match_listed announced entries found h).1 m) reliable))

-- ---- order
sorted_cons : {K : Type 0} (c : K → K → Ordering) (x : K) (xs : List K) → AllByRecursion (λ y. c x y ≡ Less) xs → IsStrictlySortedBy c xs → IsStrictlySortedBy c (x ∷ xs)
unfolding IsStrictlySortedBy
sorted_cons c x xs h s = (h, s)

sorted_nil : {K : Type 0} (c : K → K → Ordering) → IsStrictlySortedBy c []
unfolding IsStrictlySortedBy
sorted_nil c = tt

-- a filter leaves what a function makes of a list in order
all_kept : {X K : Type 0} (P : K → Type 0) (f : X → K) (p : X → Bool) (xs : List X) → AllByRecursion P (map f xs) → AllByRecursion P (map f (filter p xs))
all_kept P f p [] h = tt
all_kept P f p (x ∷ xs) h = by_test (p x) (all_kept P f p xs h.1)
  where
    by_test : (b : Bool) → AllByRecursion P (map f (filter p xs)) → AllByRecursion P (map f (cond b (x ∷ filter p xs) (filter p xs)))
    by_test true r = (h.0, r)
    by_test false r = r

sorted_kept : {X K : Type 0} (c : K → K → Ordering) (f : X → K) (p : X → Bool) (xs : List X) → IsStrictlySortedBy c (map f xs) → IsStrictlySortedBy c (map f (filter p xs))
sorted_kept c f p [] h = h
sorted_kept c f p (x ∷ xs) h =
    by_test (p x) (sorted_kept c f p xs (sorted_tail c (f x) (map f xs) h)) (all_kept (λ y. c (f x) y ≡ Less) f p xs (sorted_head c (f x) (map f xs) h))
  where
    by_test : (b : Bool) → IsStrictlySortedBy c (map f (filter p xs)) → AllByRecursion (λ y. c (f x) y ≡ Less) (map f (filter p xs)) → IsStrictlySortedBy c (map f (cond b (x ∷ filter p xs) (filter p xs)))
    by_test true s a = sorted_cons c (f x) (map f (filter p xs)) a s
    by_test false s a = s

-- the GUIDs of the settled endpoints are those of their entries
guids_settled : (entries : directory.Entries) → AllByRecursion (λ entry. IfSome entry.1 (λ endpoint. endpoint.guid ≡ entry.0)) entries
    → map (λ endpoint. endpoint.guid) (directory.settled_in entries) ≡ keys_of (filter (λ entry. is_some entry.1) entries)
guids_settled [] h = refl
guids_settled (entry ∷ entries) h = at_entry entry.0 entry.1 (directory.settled_in entries) (filter (λ entry. is_some entry.1) entries) h.0 (guids_settled entries h.1)
  where
    at_entry : (guid : Guid) (found : Option endpoint_spec.EndpointValue) (settled : List endpoint_spec.EndpointValue) (kept : directory.Entries) → IfSome found (λ endpoint. endpoint.guid ≡ guid)
        → map (λ endpoint. endpoint.guid) settled ≡ keys_of kept → map (λ endpoint. endpoint.guid) (cons_option found settled) ≡ keys_of (cond (is_some found) ((guid, found) ∷ kept) kept)
    at_entry guid None settled kept h e = e
    at_entry guid (Some endpoint) settled kept h e = rw (h, e) refl

own_guid : (announced : List endpoint_spec.EndpointValue) (guid : Guid) (found : Option endpoint_spec.EndpointValue) → directory.IsEntry announced guid (Some found) → IfSome found (λ endpoint. endpoint.guid ≡ guid)
own_guid announced guid None h = tt
own_guid announced guid (Some endpoint) h = h.0

own_guids : (announced : List endpoint_spec.EndpointValue) (entries : directory.Entries) → directory.AreEntries announced entries → All (λ entry. IfSome entry.1 (λ endpoint. endpoint.guid ≡ entry.0)) entries
own_guids announced entries h = λ i d lt.
    let entry = get_or entries i d in
    own_guid announced entry.0 entry.1 (entry_of announced entries entry.0 entry.1 h (Contains-get_or entries i d lt))

pub settled_in_order : (announced : List endpoint_spec.EndpointValue) (entries : directory.Entries) → directory.AreEntries announced entries → IsStrictlySortedBy guid_order.guid_cmp (map (λ endpoint. endpoint.guid) (directory.settled_in entries))
settled_in_order announced entries h =
    rw (guids_settled entries (recursion_from_All _ entries (own_guids announced entries h))) (sorted_kept guid_order.guid_cmp (λ entry. entry.0) (λ entry. is_some entry.1) entries h.in_order)

pub unsettled_in_order : (announced : List endpoint_spec.EndpointValue) (entries : directory.Entries) → directory.AreEntries announced entries → IsStrictlySortedBy guid_order.guid_cmp (directory.unsettled_in entries)
unsettled_in_order announced entries h = sorted_kept guid_order.guid_cmp (λ entry. entry.0) (λ entry. is_none entry.1) entries h.in_order

-- the matches of one writer rise by their readers
abbrev pair_with : Guid → Guid → Pair
pair_with writer reader = record { writer = writer; reader = reader }

readers_rise : (writer reader : Guid) (readers : List Guid) → AllByRecursion (λ other. guid_order.guid_cmp reader other ≡ Less) readers
    → AllByRecursion (λ other. listings.pair_cmp (pair_with writer reader) other ≡ Less) (map (pair_with writer) readers)
readers_rise writer reader [] h = tt
readers_rise writer reader (other ∷ readers) h = (rw (tied_itself guids_total writer) h.0, readers_rise writer reader readers h.1)

one_writer : (writer : Guid) (readers : List Guid) → IsStrictlySortedBy guid_order.guid_cmp readers → IsStrictlySortedBy listings.pair_cmp (map (pair_with writer) readers)
one_writer writer [] h = sorted_nil listings.pair_cmp
one_writer writer (reader ∷ readers) h =
    sorted_cons listings.pair_cmp (pair_with writer reader) (map (pair_with writer) readers) (readers_rise writer reader readers (sorted_head guid_order.guid_cmp reader readers h))
    (one_writer writer readers (sorted_tail guid_order.guid_cmp reader readers h))

-- the pairs of a writer's matches
pairs_of-matches : (writer : endpoint_spec.EndpointValue) (readers : List endpoint_spec.EndpointValue) → map (λ found. found.pair) (map (matching.match_of writer) readers) ≡ map (pair_with writer.guid) (map (λ reader. reader.guid) readers)
pairs_of-matches writer [] = refl
pairs_of-matches writer (reader ∷ readers) = ap (λ pairs. pair_with writer.guid reader.guid ∷ pairs) (pairs_of-matches writer readers)

matches_rise : (writer : endpoint_spec.EndpointValue) (endpoints : List endpoint_spec.EndpointValue) → IsStrictlySortedBy guid_order.guid_cmp (map (λ endpoint. endpoint.guid) endpoints)
    → IsStrictlySortedBy listings.pair_cmp (map (λ found. found.pair) (matching.matches_of writer endpoints))
matches_rise writer endpoints h =
    rw (pairs_of-matches writer (filter (matching.is_match writer) endpoints)) (one_writer writer.guid _ (sorted_kept guid_order.guid_cmp (λ endpoint. endpoint.guid) (matching.is_match writer) endpoints h))

-- ---- one list after another
all_append : {K : Type 0} (P : K → Type 0) (xs ys : List K) → AllByRecursion P xs → AllByRecursion P ys → AllByRecursion P (xs ++ ys)
all_append P [] ys h k = k
all_append P (x ∷ xs) ys h k = (h.0, all_append P xs ys h.1 k)

all_weaker : {K : Type 0} (P Q : K → Type 0) → ((x : K) → P x → Q x) → (xs : List K) → AllByRecursion P xs → AllByRecursion Q xs
all_weaker P Q f [] h = tt
all_weaker P Q f (x ∷ xs) h = (f x h.0, all_weaker P Q f xs h.1)

sorted_append : {K : Type 0} (c : K → K → Ordering) (xs ys : List K) → IsStrictlySortedBy c xs → IsStrictlySortedBy c ys → AllByRecursion (λ x. AllByRecursion (λ y. c x y ≡ Less) ys) xs
    → IsStrictlySortedBy c (xs ++ ys)
sorted_append c [] ys s t h = t
sorted_append c (x ∷ xs) ys s t h =
    sorted_cons c x (xs ++ ys) (all_append (λ y. c x y ≡ Less) xs ys (sorted_head c x xs s) h.0) (sorted_append c xs ys (sorted_tail c x xs s) t h.1)

-- each pair of a writer's matches is the writer's
its_own : (writer : endpoint_spec.EndpointValue) (readers : List endpoint_spec.EndpointValue) → AllByRecursion (λ pair. pair.writer ≡ writer.guid) (map (λ found. found.pair) (map (matching.match_of writer) readers))
its_own writer [] = tt
its_own writer (reader ∷ readers) = (refl, its_own writer readers)

-- the pairs of later writers are above
writers_above : (guid : Guid) (all endpoints : List endpoint_spec.EndpointValue) → AllByRecursion (λ other. guid_order.guid_cmp guid other ≡ Less) (map (λ endpoint. endpoint.guid) endpoints)
    → AllByRecursion (λ pair. guid_order.guid_cmp guid pair.writer ≡ Less) (map (λ found. found.pair) (flat_map (λ writer. matching.matches_of writer all) endpoints))
writers_above guid all [] h = tt
writers_above guid all (endpoint ∷ endpoints) h =
    rw (map-append (λ found. found.pair) (matching.matches_of endpoint all) (flat_map (λ writer. matching.matches_of writer all) endpoints))
    (all_append _ _ _ (all_weaker (λ pair. pair.writer ≡ endpoint.guid) (λ pair. guid_order.guid_cmp guid pair.writer ≡ Less) (λ pair e. rw e h.0) _ (its_own endpoint (filter (matching.is_match endpoint) all)))
    (writers_above guid all endpoints h.1))

first_decides : (o p : Ordering) → o ≡ Less → ordering_then o p ≡ Less
first_decides o p e = rw e refl

pair_below : (a b : Pair) (guid : Guid) → a.writer ≡ guid → guid_order.guid_cmp guid b.writer ≡ Less → listings.pair_cmp a b ≡ Less
pair_below a b guid e h = first_decides (guid_order.guid_cmp a.writer b.writer) (guid_order.guid_cmp a.reader b.reader) (rw e h)

pub matches_in_order : (all endpoints : List endpoint_spec.EndpointValue) → IsStrictlySortedBy guid_order.guid_cmp (map (λ endpoint. endpoint.guid) all) → IsStrictlySortedBy guid_order.guid_cmp (map (λ endpoint. endpoint.guid) endpoints)
    → IsStrictlySortedBy listings.pair_cmp (map (λ found. found.pair) (flat_map (λ writer. matching.matches_of writer all) endpoints))
matches_in_order all [] h k = sorted_nil listings.pair_cmp
matches_in_order all (endpoint ∷ endpoints) h k =
    let guids = map (λ (x : endpoint_spec.EndpointValue). x.guid) endpoints in
    let later = writers_above endpoint.guid all endpoints (sorted_head guid_order.guid_cmp endpoint.guid guids k) in
    rw (map-append (λ found. found.pair) (matching.matches_of endpoint all) (flat_map (λ writer. matching.matches_of writer all) endpoints))
    (sorted_append listings.pair_cmp _ _ (matches_rise endpoint all h) (matches_in_order all endpoints h (sorted_tail guid_order.guid_cmp endpoint.guid guids k))
    (all_weaker (λ pair. pair.writer ≡ endpoint.guid) _ (λ pair e. all_weaker _ (λ other. listings.pair_cmp pair other ≡ Less) (λ other lt. pair_below pair other endpoint.guid e lt) _ later)
    _ (its_own endpoint (filter (matching.is_match endpoint) all))))

pub listed_in_order : (announced : List endpoint_spec.EndpointValue) (entries : directory.Entries) → directory.AreEntries announced entries
    → IsStrictlySortedBy listings.pair_cmp (map (λ found. found.pair) (matching.matches_among (directory.settled_in entries)))
listed_in_order announced entries h = let s = settled_in_order announced entries h in matches_in_order (directory.settled_in entries) (directory.settled_in entries) s s

pub pairs_in_order : (announced : List endpoint_spec.EndpointValue) (entries : directory.Entries) → directory.AreEntries announced entries
    → IsStrictlySortedBy listings.pair_cmp (matching.reliable_pairs (matching.matches_among (directory.settled_in entries)))
pairs_in_order announced entries h = sorted_kept listings.pair_cmp (λ found. found.pair) (λ found. found.reliable) (matching.matches_among (directory.settled_in entries)) (listed_in_order announced entries h)
