use Rattle.std.proofs.Common.{◌≡◌, ◌++◌, take, flat_map, string_bytes}
use Rattle.rtps_discovery.specs.Endpoint as endpoint_spec
use Rattle.rtps_text.specs.ListText as list_text
use Rattle.rtps_text.proofs.text.list_text.push_endpoints.Given as goal

abbrev pub invariant-loop-endpoint : goal.invariant-loop-endpoint
invariant-loop-endpoint l =
    string_bytes l.text ≡ string_bytes l.initial.text ++ flat_map (λ endpoint. list_text.endpoint_line (endpoint_spec.endpoint_value endpoint)) (take l.endpoint-index l.endpoints)
