use Rattle.std.proofs.Common.{◌≡◌, ◌++◌, map, take}
use Rattle.rtps_discovery.specs.Endpoint as endpoint
use Rattle.rtps_discovery.specs.Matching as matching
use Rattle.rtps_discovery.proofs.topic_index.push_matches.Given as goal

abbrev pub invariant-loop-reader : goal.invariant-loop-reader
invariant-loop-reader l = l.found.items ≡ l.fn.found.items ++ matching.matches_of (endpoint.endpoint_value l.writer) (map endpoint.endpoint_value (take l.reader-index l.readers))
