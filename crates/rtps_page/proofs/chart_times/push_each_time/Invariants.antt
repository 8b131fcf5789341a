use Rattle.std.proofs.Common.{◌≡◌, ◌++◌, flat_map, take}
use Rattle.rtps_json.specs.JsonText as json_text
use Rattle.rtps_page.specs.ChartTimes as chart_times
use Rattle.rtps_page.proofs.Written.{json_tokens}
use Rattle.rtps_page.proofs.chart_times.push_each_time.Given as goal

abbrev pub invariant-loop-datagram : goal.invariant-loop-datagram
invariant-loop-datagram l = (l.writer.tokens ≡ l.initial.writer.tokens ++ flat_map (λ datagram. flat_map json_tokens (chart_times.time_of_json (json_text.clock_times l.clock) datagram)) (take l.datagram-index l.datagrams))
    × (l.writer.before ≡ l.initial.writer.before)
