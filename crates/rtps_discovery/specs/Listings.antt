-- What is a match and a pair among announcements, and the order of pairs. own: by writer and then by reader, so that
-- one recording has one list.
use Rattle.std.specs.Prelude.{◌≡◌, List}
use Rattle.std.specs.Ordering.{ordering_then}
use Rattle.std.specs.declared.cmp.Ordering.{Ordering}
use Rattle.rtps_discovery.specs.Directory as directory
use Rattle.rtps_discovery.specs.Endpoint as endpoint
use Rattle.rtps_discovery.specs.GuidOrder as guid_order
use Rattle.rtps_discovery.specs.Matching as matching
use Rattle.rtps_discovery.specs.declared.endpoint.Reliability.{Reliability}
use Rattle.rtps_discovery.specs.declared.matching.Match.{Match}
use Rattle.rtps_discovery.specs.declared.matching.Pair.{Pair}

-- the match of a settled writer and a settled reader
pub record IsMatchAmong (announced : List endpoint.EndpointValue) (found : Match) : Type 0 where
  pub writer : endpoint.EndpointValue
  pub reader : endpoint.EndpointValue
  pub writer_settled : directory.IsSettled announced writer
  pub reader_settled : directory.IsSettled announced reader
  pub they_match : matching.Matches writer reader
  pub is_theirs : found ≡ matching.match_of writer reader

-- the pair of a settled writer and a settled reader that match and are both RELIABLE
pub record IsReliablePair (announced : List endpoint.EndpointValue) (pair : Pair) : Type 0 where
  pub writer : endpoint.EndpointValue
  pub reader : endpoint.EndpointValue
  pub writer_settled : directory.IsSettled announced writer
  pub reader_settled : directory.IsSettled announced reader
  pub they_match : matching.Matches writer reader
  pub writer_reliable : writer.reliability ≡ Reliability.Reliable
  pub reader_reliable : reader.reliability ≡ Reliability.Reliable
  pub is_theirs : pair ≡ record { writer = writer.guid; reader = reader.guid }

-- by writer, and then by reader
abbrev pub pair_cmp : Pair → Pair → Ordering
pair_cmp a b = ordering_then (guid_order.guid_cmp a.writer b.writer) (guid_order.guid_cmp a.reader b.reader)
