-- Which writers and readers match. DDSI-RTPS 2.5, 8.5.4 "The Simple Endpoint Discovery Protocol", and DDS 1.4, 2.2.3
-- "Supported QoS": a reader asks for no more than the writer offers.
use Rattle.std.specs.Prelude.{ℕ, ◌≡◌, ◌≤◌, nat_le, nat_eq, Bool, true, false, ◌&&◌, List, filter, flat_map, map}
use Rattle.std.specs.Cmp.Lexicographic.{pointwise}
use Rattle.rtps_discovery.specs.Endpoint as endpoint
use Rattle.rtps_discovery.specs.declared.endpoint.Durability.{Durability}
use Rattle.rtps_discovery.specs.declared.endpoint.Reliability.{Reliability}
use Rattle.rtps_discovery.specs.declared.endpoint.Side.{Side}
use Rattle.rtps_discovery.specs.declared.matching.Match.{Match}
use Rattle.rtps_discovery.specs.declared.matching.Pair.{Pair}

-- how strong a reliability is
abbrev pub reliability_rank : Reliability → ℕ
reliability_rank Reliability.BestEffort = 0
reliability_rank Reliability.Reliable = 1

-- how strong a durability is: a stronger one satisfies a request for a weaker
abbrev pub durability_rank : Durability → ℕ
durability_rank Durability.Volatile = 0
durability_rank Durability.TransientLocal = 1
durability_rank Durability.Transient = 2
durability_rank Durability.Persistent = 3

-- a writer and a reader match. own: topic, type, reliability and durability alone decide; partitions and other policies
-- do not count
pub record Matches (writer reader : endpoint.EndpointValue) : Type 0 where
  pub is_writer : writer.side ≡ Side.Writer
  pub is_reader : reader.side ≡ Side.Reader
  pub one_topic : writer.topic ≡ reader.topic
  pub one_type : writer.type_name ≡ reader.type_name
  pub reliable_enough : reliability_rank reader.reliability ≤ reliability_rank writer.reliability
  pub durable_enough : durability_rank reader.durability ≤ durability_rank writer.durability

-- the side of a writer
abbrev pub is_writer : Side → Bool
is_writer Side.Writer = true
is_writer Side.Reader = false

-- the side of a reader
abbrev pub is_reader : Side → Bool
is_reader Side.Writer = false
is_reader Side.Reader = true

-- whether this writer and this reader match
unfoldable pub is_match : endpoint.EndpointValue → endpoint.EndpointValue → Bool
is_match writer reader =
    is_writer writer.side && (is_reader reader.side
    && (pointwise nat_eq writer.topic reader.topic && (pointwise nat_eq writer.type_name reader.type_name
    && (nat_le (reliability_rank reader.reliability) (reliability_rank writer.reliability)
    && nat_le (durability_rank reader.durability) (durability_rank writer.durability)))))

-- the reliability is RELIABLE
abbrev pub is_reliable : Reliability → Bool
is_reliable Reliability.BestEffort = false
is_reliable Reliability.Reliable = true

-- the match of this writer and this reader; it is reliable if both are
abbrev pub match_of : endpoint.EndpointValue → endpoint.EndpointValue → Match
match_of writer reader =
    record {
      pair = record { writer = writer.guid; reader = reader.guid };
      reliable = is_reliable writer.reliability && is_reliable reader.reliability;
    }

-- the matches of a writer among endpoints, in their order
abbrev pub matches_of : endpoint.EndpointValue → List endpoint.EndpointValue → List Match
matches_of writer endpoints = map (match_of writer) (filter (is_match writer) endpoints)

-- the matches among endpoints: each writer with each reader, in order
abbrev pub matches_among : List endpoint.EndpointValue → List Match
matches_among endpoints = flat_map (λ writer. matches_of writer endpoints) endpoints

-- the pairs of the matches in which both are reliable
abbrev pub reliable_pairs : List Match → List Pair
reliable_pairs matches = map (λ found. found.pair) (filter (λ found. found.reliable) matches)
