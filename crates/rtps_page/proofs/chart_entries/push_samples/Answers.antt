use Rattle.std.proofs.Common.{◌++◌, ◌∙◌, List, ap, flat_map}
use Rattle.std.proofs.lemmas.List.{flat_map_more, replicate_more}
use Rattle.std.specs.Prelude.{replicate}
use Rattle.json.specs.Json.{Json}
use Rattle.rtps_page.specs.ChartEntries as chart_entries
use Rattle.rtps_page.proofs.Written.{json_tokens, Token}
use Rattle.rtps_page.proofs.chart_entries.push_samples.Goals as goal

pub loop-preserved : goal.loop-preserved
loop-preserved c =
    let start : List Token = c.args.writer.now.tokens in
    let one : Json = chart_entries.sample_json c.args.head.place c.args.head.named.now c.args.number in
    let i = c.loop.counter in (
      c.in_ok-push_sample.ensures.tokens ∙ ap (λ l. l ++ json_tokens one) c.loop.invariant.0 ∙ flat_map_more json_tokens start (replicate i one) one
          ∙ ap (λ l. start ++ flat_map json_tokens l) (replicate_more i one),
      c.in_ok-push_sample.ensures.before ∙ c.loop.invariant.1,
    )
