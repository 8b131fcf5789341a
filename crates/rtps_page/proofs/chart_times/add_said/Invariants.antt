use Rattle.std.proofs.Common.{◌≡◌, ◌++◌, filter, map, take}
use Rattle.rtps_receiver.specs.Speech as speech
use Rattle.rtps_audit.specs.Placed as placed
use Rattle.rtps_page.specs.ChartTimes as chart_times
use Rattle.rtps_page.proofs.chart_times.add_said.Given as goal

abbrev pub invariant-loop-placed : goal.invariant-loop-placed
invariant-loop-placed l = l.numbers.items
    ≡ l.initial.numbers.items ++ map (λ placed. placed.datagram) (filter chart_times.has_entry (filter (λ placed. speech.is_spoken_by placed.act l.fn.writer) (map placed.placed_value (take l.placed-index l.placed-items))))
