use Rattle.std.proofs.Common.{◌≡◌, ◌++◌, flat_map, take}
use Rattle.rtps_page.proofs.Written.{json_tokens, number_json}
use Rattle.rtps_page.proofs.chart_entries.push_entry.Given as goal

abbrev pub invariant-loop-number : goal.invariant-loop-number
invariant-loop-number l = (l.writer.tokens ≡ l.initial.writer.tokens ++ flat_map (λ number. json_tokens (number_json number)) (take l.number-index l.numbers)) × (l.writer.before ≡ l.initial.writer.before)
