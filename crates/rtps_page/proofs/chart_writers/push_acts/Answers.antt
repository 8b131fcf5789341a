use Rattle.std.proofs.Common.{◌++◌, [], ◌∙◌, List, ap, flat_map, map, sym, take}
use Rattle.std.proofs.lemmas.List.Concat.{flat_map-append}
use Rattle.json.specs.Json.{Json}
use Rattle.rtps_audit.specs.Placed as placed
use Rattle.rtps_page.specs.ChartEntries as chart_entries
use Rattle.rtps_page.proofs.TellingLemmas.{acts_more}
use Rattle.rtps_page.proofs.Written.{json_tokens, three_parts, Token}
use Rattle.rtps_page.proofs.chart_writers.push_acts.Goals as goal

pub loop-at-preserved : goal.loop-at-preserved
loop-at-preserved c =
    let start : List Token = c.args.writer.now.tokens in
    let acts = c.args.acts.now in
    let at = c.loop-at.at in
    let x = c.index-acts-at.result in
    let tokens : List Json → List Token = flat_map json_tokens in (
      λ readers are.
          let front = chart_entries.entries_behind readers [] (map placed.placed_value (take at acts)) in
          let said = chart_entries.entries_of (placed.placed_value x) in
          let told = chart_entries.samples_counted c.args.tellings.now at (placed.placed_value x) in
          three_parts start (tokens front) (tokens said) (tokens told) (c.loop-at.invariant.0 readers are) c.in_ok-push_entries.ensures.tokens c.in_ok-push_told.ensures.tokens
          ∙ ap (λ l. start ++ (tokens front ++ l)) (sym (flat_map-append json_tokens said told))
          ∙ ap (λ l. start ++ l) (sym (flat_map-append json_tokens front (said ++ told)))
          ∙ ap (λ l. start ++ tokens l) (sym (acts_more readers acts c.args.tellings.now at x are c.loop-at-test.true c.index-acts-at.is)),
      c.in_ok-push_told.ensures.before ∙ (c.in_ok-push_entries.ensures.before ∙ c.loop-at.invariant.1),
    )
