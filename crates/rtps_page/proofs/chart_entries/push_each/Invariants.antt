use Rattle.std.proofs.Common.{◌≡◌, ◌++◌, flat_map, take}
use Rattle.rtps_page.specs.ChartEntries as chart_entries
use Rattle.rtps_page.proofs.Written.{json_tokens}
use Rattle.rtps_page.proofs.chart_entries.push_each.Given as goal

abbrev pub invariant-loop-telling : goal.invariant-loop-telling
invariant-loop-telling l = (l.writer.tokens ≡ l.initial.writer.tokens
    ++ flat_map (λ one. flat_map json_tokens (chart_entries.samples_to l.fn.teller.place l.fn.teller.number (chart_entries.told_of l.fn.teller.at one))) (take l.telling-index l.each)) × (l.writer.before ≡ l.initial.writer.before)
