use Rattle.std.proofs.Common.{◌≡◌, List, map, take}
use Rattle.rtps_receiver.specs.Values as values
use Rattle.rtps_discovery.specs.Endpoint as endpoint
use Rattle.rtps_policies.specs.Announcing as announcing
use Rattle.rtps_policies.specs.Fitting as fitting
use Rattle.rtps_policies.proofs.announced.Announced.profiles.Given as goal

-- those of the endpoints so far
abbrev pub invariant-loop-endpoint : goal.invariant-loop-endpoint
invariant-loop-endpoint l = (acts : List values.ActValue) → announcing.IsAnnouncedBy acts l.self → map fitting.profile_value l.profiles.items ≡ map (announcing.profile_among acts) (map endpoint.endpoint_value (take l.endpoint-index l.endpoints))
