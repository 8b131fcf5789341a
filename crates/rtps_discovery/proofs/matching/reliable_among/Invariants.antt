use Rattle.std.proofs.Common.{◌≡◌, filter, take}
use Rattle.rtps_discovery.specs.Matching as matching
use Rattle.rtps_discovery.proofs.matching.reliable_among.Given as goal

-- those so far
abbrev pub invariant-loop-endpoint : goal.invariant-loop-endpoint
invariant-loop-endpoint l = l.reliable.items ≡ filter (λ endpoint. matching.is_reliable endpoint.reliability) (take l.endpoint-index l.endpoints)
