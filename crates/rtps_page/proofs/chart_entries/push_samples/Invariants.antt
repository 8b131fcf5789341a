use Rattle.std.proofs.Common.{◌≡◌, ◌++◌, flat_map}
use Rattle.std.specs.Prelude.{replicate}
use Rattle.rtps_page.specs.ChartEntries as chart_entries
use Rattle.rtps_page.proofs.Written.{json_tokens}
use Rattle.rtps_page.proofs.chart_entries.push_samples.Given as goal

abbrev pub invariant-loop : goal.invariant-loop
invariant-loop l = (l.writer.tokens ≡ l.initial.writer.tokens ++ flat_map json_tokens (replicate l.counter (chart_entries.sample_json l.fn.head.place l.fn.head.named.now l.fn.number))) × (l.writer.before ≡ l.initial.writer.before)
