use Rattle.std.proofs.Common.{◌≡◌, ◌++◌, ◌∙◌, List, ap, append_assoc, length, sym, flat_map, string_bytes}
use Rattle.std.proofs.lemmas.List.{length-map}
use Rattle.std.proofs.lemmas.List.Folds.{flat_map-map}
use Rattle.rtps_discovery.specs.Directory as directory_spec
use Rattle.rtps_discovery.specs.Endpoint as endpoint
use Rattle.rtps_discovery.specs.Matching as matching
use Rattle.rtps_text.specs.ListText as list_text
use Rattle.rtps_text.proofs.text.list_text.directory_text.Goals as goal

pub returns : goal.returns
returns c =
    let directory = c.args.directory.now in
    let settled = directory_spec.settled_in directory.endpoints in
    let participants = flat_map list_text.participant_line directory.participants in
    let endpoints = flat_map list_text.endpoint_line settled in
    let matches = flat_map list_text.match_line (matching.matches_among settled) in
    let faults = c.args.faults in
    let last = list_text.counts_line (length directory.participants) (length settled) (length (directory_spec.unsettled_in directory.endpoints)) faults in
    let one : string_bytes c.push_participants.new.text ≡ participants =
    c.in_ok-push_participants.ensures ∙ (ap (λ bytes. bytes ++ flat_map list_text.participant_line c.deref.result.now) c.new-text.ensures.bytes
    ∙ ap (flat_map list_text.participant_line) (c.deref.ensures.value ∙ c.in_ok-participants.ensures)) in
    let two : string_bytes c.push_endpoints.new.text ≡ participants ++ endpoints =
    c.in_ok-push_endpoints.ensures ∙ (ap (λ bytes. bytes ++ flat_map (λ e. list_text.endpoint_line (endpoint.endpoint_value e)) c.deref-2.result.now) one
    ∙ ap (λ lines. participants ++ lines) (ap (flat_map (λ e. list_text.endpoint_line (endpoint.endpoint_value e))) c.deref-2.ensures.value
    ∙ (sym (flat_map-map list_text.endpoint_line endpoint.endpoint_value c.in_ok-endpoints.endpoints.items) ∙ ap (flat_map list_text.endpoint_line) c.in_ok-endpoints.ensures))) in
    let three : string_bytes c.push_matches.new.text ≡ (participants ++ endpoints) ++ matches =
    c.in_ok-push_matches.ensures ∙ (ap (λ bytes. bytes ++ flat_map list_text.match_line c.deref-3.result.now) two
    ∙ ap (λ lines. (participants ++ endpoints) ++ lines) (ap (flat_map list_text.match_line) (c.deref-3.ensures.value ∙ c.in_ok-matches.ensures))) in
    let p : c.len.result ≡ length directory.participants = c.len.ensures ∙ (c.in_ok-participants.participants.ok.0 ∙ ap length c.in_ok-participants.ensures) in
    let e : c.len-2.result ≡ length settled =
    c.len-2.ensures ∙ (c.in_ok-endpoints.endpoints.ok.0 ∙ (sym (length-map c.in_ok-endpoints.endpoints.items endpoint.endpoint_value) ∙ ap (λ (all : List endpoint.EndpointValue). length all) c.in_ok-endpoints.ensures)) in
    let line : list_text.counts_line c.len.result c.len-2.result c.unsettled.result faults ≡ last =
    ap (λ n. list_text.counts_line n c.len-2.result c.unsettled.result faults) p
    ∙ (ap (λ n. list_text.counts_line (length directory.participants) n c.unsettled.result faults) e ∙ ap (λ n. list_text.counts_line (length directory.participants) (length settled) n faults) c.unsettled.ensures) in
    c.in_ok-writeln.ensures.bytes ∙ (ap (λ bytes. bytes ++ list_text.counts_line c.len.result c.len-2.result c.unsettled.result faults) three
    ∙ (ap (λ bytes. ((participants ++ endpoints) ++ matches) ++ bytes) line
    ∙ (append_assoc (participants ++ endpoints) matches last ∙ append_assoc participants endpoints (matches ++ last))))
