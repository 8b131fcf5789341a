-- Readers sorted by topic and then by type. own: a writer is compared only with the readers of its topic and its type,
-- so that many topics, and many types of one topic, cost little.
use Rattle.std.specs.Prelude.{ℕ, ◌≡◌, Bool, List, filter}
use Rattle.std.specs.Cmp.Lexicographic.{slice_cmp}
use Rattle.std.specs.List.Sorted.{IsSortedByKey}
use Rattle.std.specs.Ordering.{is_eq, nat_cmp}
use Rattle.rtps_discovery.specs.Matching as matching
use Rattle.rtps_discovery.specs.declared.endpoint.Endpoint.{Endpoint}

-- the readers among endpoints
abbrev pub readers_among : List Endpoint → List Endpoint
readers_among endpoints = filter (λ endpoint. matching.is_reader endpoint.side) endpoints

-- readers that are sorted by topic, octet by octet
abbrev pub IsByTopic : List Endpoint → Type 0
IsByTopic readers = IsSortedByKey (λ reader. reader.topic.now) (slice_cmp nat_cmp) readers

-- a reader of this topic
abbrev pub has_topic : List ℕ → Endpoint → Bool
has_topic topic reader = is_eq (slice_cmp nat_cmp reader.topic.now topic)

-- readers that are sorted by type, octet by octet
abbrev pub IsByType : List Endpoint → Type 0
IsByType readers = IsSortedByKey (λ reader. reader.type_name.now) (slice_cmp nat_cmp) readers

-- a reader of this type
abbrev pub has_type : List ℕ → Endpoint → Bool
has_type type_name reader = is_eq (slice_cmp nat_cmp reader.type_name.now type_name)

-- for each writer, the readers of its topic are sorted by type
abbrev pub IsByTypeInTopics : List Endpoint → Type 0
IsByTypeInTopics readers = (writer : Endpoint) → IsByType (filter (has_topic writer.topic.now) readers)

-- sorting kept the order of the readers of one topic and one type
abbrev pub KeepsTypes : List Endpoint → List Endpoint → Type 0
KeepsTypes readers sorted = (writer : Endpoint)
    → filter (has_type writer.type_name.now) (filter (has_topic writer.topic.now) sorted)
    ≡ filter (has_type writer.type_name.now) (filter (has_topic writer.topic.now) readers)
