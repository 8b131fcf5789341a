use Rattle.std.proofs.Common.{◌≡◌, ◌++◌, flat_map, take}
use Rattle.rtps_discovery.specs.Endpoint as endpoint_spec
use Rattle.rtps_page.proofs.Written.{endpoint_json, json_tokens}
use Rattle.rtps_page.proofs.page_directory.push_directory.Given as goal

abbrev pub invariant-loop-endpoint : goal.invariant-loop-endpoint
invariant-loop-endpoint l = (l.writer.tokens ≡ l.initial.writer.tokens ++ flat_map (λ endpoint. json_tokens (endpoint_json (endpoint_spec.endpoint_value endpoint))) (take l.endpoint-index l.endpoint-items)) × (l.writer.before ≡ l.initial.writer.before)
