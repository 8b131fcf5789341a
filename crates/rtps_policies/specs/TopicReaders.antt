-- Readers sorted by topic. own: a writer is compared only with the readers of its topic, so that many topics cost little.
use Rattle.std.specs.Prelude.{ℕ, ◌≡◌, Bool, List, filter}
use Rattle.std.specs.Cmp.Lexicographic.{slice_cmp}
use Rattle.std.specs.List.Sorted.{IsSortedByKey}
use Rattle.std.specs.Ordering.{is_eq, nat_cmp}
use Rattle.rtps_discovery.specs.Matching as matching
use Rattle.rtps_policies.specs.declared.fitting.Profile.{Profile}

-- the readers among profiles
abbrev pub readers_among : List Profile → List Profile
readers_among profiles = filter (λ profile. matching.is_reader profile.endpoint.side) profiles

-- readers that are sorted by topic, octet by octet
abbrev pub AreByTopic : List Profile → Type 0
AreByTopic readers = IsSortedByKey (λ reader. reader.endpoint.topic.now) (slice_cmp nat_cmp) readers

-- a reader of this topic
abbrev pub has_topic : List ℕ → Profile → Bool
has_topic topic reader = is_eq (slice_cmp nat_cmp reader.endpoint.topic.now topic)

-- sorting kept the order of the readers of one topic
abbrev pub KeepsTopics : List Profile → List Profile → Type 0
KeepsTopics readers sorted = (writer : Profile) → filter (has_topic writer.endpoint.topic.now) sorted ≡ filter (has_topic writer.endpoint.topic.now) readers
