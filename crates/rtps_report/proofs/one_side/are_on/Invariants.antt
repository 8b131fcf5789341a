use Rattle.std.proofs.Common.{◌≡◌, map, take, true}
use Rattle.std.specs.List.{list_all}
use Rattle.rtps_discovery.specs.Endpoint as endpoint
use Rattle.rtps_report.specs.OneSides as one_sides
use Rattle.rtps_report.proofs.one_side.are_on.Given as goal

-- all so far are on the side
abbrev pub invariant-loop-endpoint : goal.invariant-loop-endpoint
invariant-loop-endpoint l = list_all (λ end. one_sides.is_side end.side l.side) (map endpoint.endpoint_value (take l.endpoint-index l.endpoints)) ≡ true
