use Rattle.std.proofs.Common.{◌≡◌, ◌++◌, ◌∙◌, List, Option, ap, ap₂, flat_map, get_or, map, rules, sym}
use Rattle.std.specs.Prelude.{replicate}
use Rattle.json.specs.Json.{Json}
use Rattle.rtps_receiver.specs.Values as values
use Rattle.rtps_receiver.specs.declared.speech.Audience.{Audience}
use Rattle.rtps_audit.specs.Placed as placed_spec
use Rattle.rtps_evidence.specs.Locations as locations
use Rattle.rtps_evidence.specs.declared.location.Location.{Location}
use Rattle.rtps_fragments.specs.SampleCounts as sample_counts
use Rattle.rtps_page.specs.ChartEntries as chart_entries
use Rattle.rtps_page.specs.declared.tellings.Telling.{Telling}
use Rattle.rtps_page.proofs.TellingLemmas.{each_tokens, if_alike, if_not_alike}
use Rattle.rtps_page.proofs.Written.{json_tokens, on_ok_weaker, Token}
use Rattle.rtps_page.proofs.chart_entries.push_told.Goals as goal

pub returns-then-are_alike-clause-tokens : goal.returns-then-are_alike-clause-tokens
returns-then-are_alike-clause-tokens c =
    let start : List Token = c.args.writer.now.tokens in
    let at = c.args.told.at in
    let one = placed_spec.placed_value c.args.placed.now in
    let piece = values.fragment_value c.in-DataFrag.piece in
    let all = get_or (map sample_counts.number_of c.args.told.tellings.now.all.items) at 0 in
    let each = map (chart_entries.told_of at) c.args.told.tellings.now.each.items in
    let is : one.act.body ≡ values.ActBodyValue.DataFrag piece = search rules in
    let sample : Location → Option Audience → Json = λ place audience. chart_entries.sample_json place (chart_entries.audience_text audience) piece.number in
    on_ok_weaker c.push_samples_for.result
    (λ last. last ∙ ap (λ n. start ++ flat_map json_tokens (replicate n (sample c.place_of-place.result c.audience.result))) c.all.ensures.value
    ∙ ap₂ (λ (place : Location) (audience : Option Audience). start ++ flat_map json_tokens (replicate all (sample place audience))) c.place_of-place.ensures c.audience.ensures
    ∙ ap (λ l. start ++ flat_map json_tokens l) (sym (if_alike one all each piece.number (sym c.are_alike.ensures ∙ c.if-are_alike.true)))
    ∙ ap (λ body. start ++ flat_map json_tokens (chart_entries.samples_in one all each body)) (sym is))
    c.push_samples_for.ensures.tokens

pub returns-clause-tokens : goal.returns-clause-tokens
returns-clause-tokens c =
    let start : List Token = c.args.writer.now.tokens in
    let at = c.args.told.at in
    let one = placed_spec.placed_value c.args.placed.now in
    let piece = values.fragment_value c.in-DataFrag.piece in
    let all = get_or (map sample_counts.number_of c.args.told.tellings.now.all.items) at 0 in
    let tellings = c.args.told.tellings.now.each.items in
    let each = map (chart_entries.told_of at) tellings in
    let is : one.act.body ≡ values.ActBodyValue.DataFrag piece = search rules in
    on_ok_weaker c.push_each.result
    (λ last. last
    ∙ ap₂ (λ (place : Location) (items : List Telling). start ++ flat_map (λ telling. flat_map json_tokens (chart_entries.samples_to place piece.number (chart_entries.told_of at telling))) items) c.place_of-place.ensures c.deref.ensures.value
    ∙ ap (λ l. start ++ l) (each_tokens (chart_entries.samples_to (locations.location_of one) piece.number) json_tokens (chart_entries.told_of at) tellings)
    ∙ ap (λ l. start ++ flat_map json_tokens l) (sym (if_not_alike one all each piece.number (sym c.are_alike.ensures ∙ c.if-are_alike.false)))
    ∙ ap (λ body. start ++ flat_map json_tokens (chart_entries.samples_in one all each body)) (sym is))
    c.push_each.ensures.tokens
