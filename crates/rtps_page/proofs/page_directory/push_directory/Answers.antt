use Rattle.std.proofs.Common.{◌++◌, ◌∷◌, [], ◌∙◌, List, ap, codes, flat_map, sym, take_all}
use Rattle.std.proofs.lemmas.List.Folds.{flat_map-map}
use Rattle.rtps_discovery.specs.Directory as directory
use Rattle.rtps_discovery.specs.Endpoint as endpoint_spec
use Rattle.rtps_discovery.specs.declared.endpoint.Endpoint.{Endpoint}
use Rattle.rtps_page.proofs.Written.{Token, begin_array, end_array, endpoint_json, four_parts, json_tokens, key, mapped_tokens}
use Rattle.rtps_page.proofs.page_directory.push_directory.Goals as goal

pub returns-clause-tokens : goal.returns-clause-tokens
returns-clause-tokens c =
    let start : List Token = c.args.writer.now.tokens in
    let flat : List endpoint_spec.EndpointValue → List Token = λ endpoints. flat_map (λ endpoint. json_tokens (endpoint_json endpoint)) endpoints in
    let settled = directory.settled_in c.args.directory.now.endpoints in
    let read : List Endpoint → List Token = λ endpoints. flat_map (λ endpoint. json_tokens (endpoint_json (endpoint_spec.endpoint_value endpoint))) endpoints in
    let listed = c.in_ok-endpoints.endpoints.items in
    let all = take_all c.loop-endpoint.endpoint-index c.deref-endpoint-items.result.now c.loop-endpoint-test.false ∙ c.deref-endpoint-items.ensures.value in
    four_parts start (key (codes "endpoints") ∷ []) (begin_array ∷ []) (flat settled) (end_array ∷ []) c.in_ok-key.ensures.ok c.in_ok-begin_array.ensures.ok
    (c.loop-endpoint.invariant.0
    ∙ ap (λ l. c.begin_array.new.self.tokens ++ l)
    (ap read all ∙ sym (flat_map-map (λ endpoint. json_tokens (endpoint_json endpoint)) endpoint_spec.endpoint_value listed) ∙ ap flat c.in_ok-endpoints.ensures))
    c.in_ok-end_array.ensures.ok
    ∙ ap (λ tokens. start ++ key (codes "endpoints") ∷ tokens) (sym (mapped_tokens endpoint_json settled))
