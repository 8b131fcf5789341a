use Rattle.std.proofs.Common.{◌≡◌, ◌++◌, filter, flat_map}
use Rattle.std.specs.List.{range_with_len}
use Rattle.rtps_ids.specs.NumberSet as number_set
use Rattle.rtps_page.proofs.Written.{json_tokens, one_gone_json}
use Rattle.rtps_page.proofs.chart_entries.push_members.Given as goal

abbrev pub invariant-loop-bit : goal.invariant-loop-bit
invariant-loop-bit l = (l.writer.tokens ≡ l.initial.writer.tokens ++ flat_map (λ number. json_tokens (one_gone_json l.fn.head.place l.fn.head.named.now number)) (filter (number_set.is_member l.set) (range_with_len l.set.base l.bit))) × (l.writer.before ≡ l.initial.writer.before)
