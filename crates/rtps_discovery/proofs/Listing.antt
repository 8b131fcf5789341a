-- The matches of a writer are those among the readers of its topic and its type.
use Rattle.std.proofs.Common.{◌≡◌, ◌≢◌, Bool, true, false, not, ◌&&◌, ℕ, ◌+◌, ◌<◌, List, [], ◌∷◌, ◌++◌, length, take, get_or, map, flat_map, filter, refl, sym, ◌∙◌, ap, cond, append-nil}
use Rattle.std.proofs.lemmas.Grind.{flat_map-append}
use Rattle.std.proofs.lemmas.List.{take_more}
use Rattle.std.specs.Cmp.{eq_by_cmp_equiv}
use Rattle.std.specs.Cmp.Lexicographic.{slice_cmp}
use Rattle.std.specs.List.Sorted.{IsStableByKey, ties}
use Rattle.std.specs.Ordering.{is_eq, is_lt, nat_cmp, ordering_reverse}
use Rattle.std.specs.declared.cmp.Ordering.{Ordering}
use Rattle.std.specs.declared.cmp.Ordering.TheVariants.{Less, Equal, Greater}
use Rattle.std.proofs.lemmas.Bool.{false≢true}
use Rattle.std.proofs.lemmas.Cmp.{nat_list_cmp_total}
use Rattle.std.proofs.lemmas.List.Elements.{filter_agree}
use Rattle.rtps_discovery.specs.Endpoint as endpoint_spec
use Rattle.rtps_discovery.specs.Matching as matching
use Rattle.rtps_discovery.specs.TopicIndex as topic_index
use Rattle.rtps_discovery.specs.declared.endpoint.Endpoint.{Endpoint}
use Rattle.rtps_discovery.specs.declared.endpoint.Side.{Side}
use Rattle.rtps_discovery.specs.declared.matching.Match.{Match}
use Rattle.rtps_discovery.proofs.Matched.{is_match_decides}
use Rattle.rtps_discovery.proofs.Topics.{has_name}
use Rattle.std.proofs.lemmas.List.Kept.{IsSortedBy-filter}
use Rattle.std.proofs.lemmas.List.MinMax.{ranks_by}

-- a filter of what another filter keeps
within_first : {X : Type 0} (x : X) (a b : Bool) (once twice : List X) (p : X → Bool) → p x ≡ a → (a ≡ true → b ≡ true) → filter p twice ≡ once
    → filter p (cond b (x ∷ twice) twice) ≡ cond a (x ∷ once) once
within_first x true true once twice p e h f = rw e (ap (λ ys. x ∷ ys) f)
within_first x true false once twice p e h f = absurd (false≢true (h refl))
within_first x false true once twice p e h f = rw e f
within_first x false false once twice p e h f = f

pub filter_within : {X : Type 0} (p q : X → Bool) → ((x : X) → p x ≡ true → q x ≡ true) → (xs : List X) → filter p (filter q xs) ≡ filter p xs
filter_within p q h [] = refl
filter_within p q h (x ∷ xs) = within_first x (p x) (q x) (filter p xs) (filter q xs) p refl (h x) (filter_within p q h xs)

pub filter-map : {X Y : Type 0} (p : Y → Bool) (f : X → Y) (xs : List X) → filter p (map f xs) ≡ map f (filter (λ x. p (f x)) xs)
filter-map p f [] = refl
filter-map p f (x ∷ xs) = at_first (p (f x)) (filter-map p f xs)
  where
    at_first : (b : Bool) → filter p (map f xs) ≡ map f (filter (λ x. p (f x)) xs) → cond b (f x ∷ filter p (map f xs)) (filter p (map f xs)) ≡ map f (cond b (x ∷ filter (λ x. p (f x)) xs) (filter (λ x. p (f x)) xs))
    at_first true e = ap (λ ys. f x ∷ ys) e
    at_first false e = e

-- readers tie by topic where they have one topic
ties_by : (o p : Ordering) → o ≡ ordering_reverse p → (not (is_lt o) && not (is_lt p)) ≡ is_eq p
ties_by o Less e = rw e refl
ties_by o Equal e = rw e refl
ties_by o Greater e = rw e refl

name_ties : (name : Endpoint → List ℕ) (writer reader : Endpoint)
    → ties (λ (x y : Endpoint). is_lt (slice_cmp nat_cmp (name x) (name y))) writer reader ≡ has_name name (name writer) reader
name_ties name writer reader = ties_by _ _ (nat_list_cmp_total.antisymm (name writer) (name reader))

-- the readers of one name, before and after a sort by it
name_kept : (name : Endpoint → List ℕ) (before after : List Endpoint) (writer : Endpoint) → IsStableByKey name (slice_cmp nat_cmp) before after
    → filter (has_name name (name writer)) after ≡ filter (has_name name (name writer)) before
name_kept name before after writer kept =
    filter_agree _ _ (λ reader. sym (name_ties name writer reader)) after ∙ kept writer ∙ filter_agree _ _ (name_ties name writer) before

-- two filters in either order
swapped_first : {X : Type 0} (x : X) (a b : Bool) (p q : X → Bool) (ps qs : List X) → p x ≡ a → q x ≡ b → filter p qs ≡ filter q ps
    → filter p (cond b (x ∷ qs) qs) ≡ filter q (cond a (x ∷ ps) ps)
swapped_first x true true p q ps qs e f h = rw (e, f) (ap (λ ys. x ∷ ys) h)
swapped_first x true false p q ps qs e f h = rw f h
swapped_first x false true p q ps qs e f h = rw e h
swapped_first x false false p q ps qs e f h = h

pub filter_swap : {X : Type 0} (p q : X → Bool) (xs : List X) → filter p (filter q xs) ≡ filter q (filter p xs)
filter_swap p q [] = refl
filter_swap p q (x ∷ xs) = swapped_first x (p x) (q x) p q (filter p xs) (filter q xs) refl refl (filter_swap p q xs)

-- two sorts, by type and then by topic, keep the readers of one topic and one type in their order
pub types_kept : (before typed sorted : List Endpoint) → IsStableByKey (λ reader. reader.type_name.now) (slice_cmp nat_cmp) before typed
    → IsStableByKey (λ reader. reader.topic.now) (slice_cmp nat_cmp) typed sorted → topic_index.KeepsTypes before sorted
types_kept before typed sorted by_type by_topic = λ writer.
    let type_test = topic_index.has_type writer.type_name.now in
    let topic_test = topic_index.has_topic writer.topic.now in
    ap (filter type_test) (name_kept (λ reader. reader.topic.now) typed sorted writer by_topic)
    ∙ filter_swap type_test topic_test typed
    ∙ ap (filter topic_test) (name_kept (λ reader. reader.type_name.now) before typed writer by_type)
    ∙ filter_swap topic_test type_test before

-- and those of one topic are sorted by type
pub typed_in_topics : (typed sorted : List Endpoint) → topic_index.IsByType typed → IsStableByKey (λ reader. reader.topic.now) (slice_cmp nat_cmp) typed sorted
    → topic_index.IsByTypeInTopics sorted
typed_in_topics typed sorted by_type by_topic = λ writer.
    rw (name_kept (λ reader. reader.topic.now) typed sorted writer by_topic)
    (IsSortedBy-filter _ (ranks_by nat_list_cmp_total (λ (reader : Endpoint). reader.type_name.now)) (topic_index.has_topic writer.topic.now) typed by_type)

match_is_reader : (writer : endpoint_spec.EndpointValue) (endpoint : Endpoint) → matching.is_match writer (endpoint_spec.endpoint_value endpoint) ≡ true → matching.is_reader endpoint.side ≡ true
match_is_reader writer endpoint e = rw (((is_match_decides writer (endpoint_spec.endpoint_value endpoint)).0 e).is_reader) refl

match_has_topic : (writer endpoint : Endpoint) → matching.is_match (endpoint_spec.endpoint_value writer) (endpoint_spec.endpoint_value endpoint) ≡ true → topic_index.has_topic writer.topic.now endpoint ≡ true
match_has_topic writer endpoint e =
    rw (((is_match_decides (endpoint_spec.endpoint_value writer) (endpoint_spec.endpoint_value endpoint)).0 e).one_topic) ((eq_by_cmp_equiv nat_list_cmp_total).refl endpoint.topic.now)

match_has_type : (writer endpoint : Endpoint) → matching.is_match (endpoint_spec.endpoint_value writer) (endpoint_spec.endpoint_value endpoint) ≡ true → topic_index.has_type writer.type_name.now endpoint ≡ true
match_has_type writer endpoint e =
    rw (((is_match_decides (endpoint_spec.endpoint_value writer) (endpoint_spec.endpoint_value endpoint)).0 e).one_type) ((eq_by_cmp_equiv nat_list_cmp_total).refl endpoint.type_name.now)

pub matches_of-readers : (endpoints readers : List Endpoint) (writer : Endpoint) → topic_index.KeepsTypes (topic_index.readers_among endpoints) readers
    → matching.matches_of (endpoint_spec.endpoint_value writer) (map endpoint_spec.endpoint_value (filter (topic_index.has_type writer.type_name.now) (filter (topic_index.has_topic writer.topic.now) readers)))
    ≡ matching.matches_of (endpoint_spec.endpoint_value writer) (map endpoint_spec.endpoint_value endpoints)
matches_of-readers endpoints readers writer kept =
    let test = λ (endpoint : Endpoint). matching.is_match (endpoint_spec.endpoint_value writer) (endpoint_spec.endpoint_value endpoint) in
    let among = topic_index.readers_among endpoints in
    ap (map (matching.match_of (endpoint_spec.endpoint_value writer)))
    (filter-map (matching.is_match (endpoint_spec.endpoint_value writer)) endpoint_spec.endpoint_value (filter (topic_index.has_type writer.type_name.now) (filter (topic_index.has_topic writer.topic.now) readers))
    ∙ ap (map endpoint_spec.endpoint_value) (ap (filter test) (kept writer)
    ∙ filter_within test (topic_index.has_type writer.type_name.now) (match_has_type writer) (filter (topic_index.has_topic writer.topic.now) among)
    ∙ filter_within test (topic_index.has_topic writer.topic.now) (match_has_topic writer) among
    ∙ filter_within test (λ endpoint. matching.is_reader endpoint.side) (match_is_reader (endpoint_spec.endpoint_value writer)) endpoints)
    ∙ sym (filter-map (matching.is_match (endpoint_spec.endpoint_value writer)) endpoint_spec.endpoint_value endpoints))

-- what is no writer has no matches
pub matches_of-reader : (endpoint : endpoint_spec.EndpointValue) (endpoints : List endpoint_spec.EndpointValue) → endpoint.side ≢ Side.Writer → matching.matches_of endpoint endpoints ≡ []
matches_of-reader endpoint [] h = refl
matches_of-reader endpoint (reader ∷ readers) h = at_first (matching.is_match endpoint reader) refl (matches_of-reader endpoint readers h)
  where
    at_first : (b : Bool) → matching.is_match endpoint reader ≡ b → matching.matches_of endpoint readers ≡ [] → map (matching.match_of endpoint) (cond (matching.is_match endpoint reader) (reader ∷ filter (matching.is_match endpoint) readers) (filter (matching.is_match endpoint) readers)) ≡ []
    at_first true e f = absurd (h ((is_match_decides endpoint reader).0 e).is_writer)
    at_first false e f = rw e f

-- the matches of the endpoints in turn, each among all
abbrev pub listed : List Endpoint → List Endpoint → List Match
listed all endpoints = flat_map (λ writer. matching.matches_of (endpoint_spec.endpoint_value writer) (map endpoint_spec.endpoint_value all)) endpoints

pub listed_all : (all endpoints : List Endpoint) → listed all endpoints ≡ flat_map (λ writer. matching.matches_of writer (map endpoint_spec.endpoint_value all)) (map endpoint_spec.endpoint_value endpoints)
listed_all all [] = refl
listed_all all (endpoint ∷ endpoints) = ap (λ found. matching.matches_of (endpoint_spec.endpoint_value endpoint) (map endpoint_spec.endpoint_value all) ++ found) (listed_all all endpoints)

pub listed_more : (endpoints : List Endpoint) (i : ℕ) (d : Endpoint) → i < length endpoints
    → listed endpoints (take (i + 1) endpoints) ≡ listed endpoints (take i endpoints) ++ matching.matches_of (endpoint_spec.endpoint_value (get_or endpoints i d)) (map endpoint_spec.endpoint_value endpoints)
listed_more endpoints i d lt =
    ap (listed endpoints) (take_more endpoints i d lt)
    ∙ flat_map-append (λ writer. matching.matches_of (endpoint_spec.endpoint_value writer) (map endpoint_spec.endpoint_value endpoints)) (take i endpoints) (get_or endpoints i d ∷ [])
    ∙ ap (λ found. listed endpoints (take i endpoints) ++ found) (append-nil _)

-- a turn at another endpoint than a writer
pub listed_other : (endpoints : List Endpoint) (i : ℕ) (d : Endpoint) (before : List Match) → i < length endpoints → ((get_or endpoints i d).side ≢ Side.Writer)
    → before ≡ listed endpoints (take i endpoints) → before ≡ listed endpoints (take (i + 1) endpoints)
listed_other endpoints i d before lt other was =
    was ∙ sym (listed_more endpoints i d lt ∙ ap (λ found. listed endpoints (take i endpoints) ++ found) (matches_of-reader _ (map endpoint_spec.endpoint_value endpoints) other) ∙ append-nil _)
