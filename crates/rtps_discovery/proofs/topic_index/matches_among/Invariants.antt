use Rattle.std.proofs.Common.{◌≡◌, map, flat_map, take}
use Rattle.rtps_discovery.specs.Endpoint as endpoint
use Rattle.rtps_discovery.specs.Matching as matching
use Rattle.rtps_discovery.proofs.topic_index.matches_among.Given as goal

abbrev pub invariant-loop-writer : goal.invariant-loop-writer
invariant-loop-writer l = l.found.items ≡ flat_map (λ writer. matching.matches_of (endpoint.endpoint_value writer) (map endpoint.endpoint_value l.endpoints)) (take l.writer-index l.endpoints)
