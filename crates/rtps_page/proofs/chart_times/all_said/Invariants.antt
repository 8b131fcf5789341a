use Rattle.std.proofs.Common.{◌≡◌, flat_map, take}
use Rattle.rtps_audit.specs.Index as index
use Rattle.rtps_audit.specs.Intake as intake
use Rattle.rtps_audit.specs.Placed as placed
use Rattle.rtps_page.specs.ChartTimes as chart_times
use Rattle.rtps_page.proofs.chart_times.all_said.Given as goal

abbrev pub invariant-loop-writer : goal.invariant-loop-writer
invariant-loop-writer l = (intake : intake.Intake) → index.IsIndexBy intake l.index → l.numbers.items ≡ flat_map (chart_times.said_in (placed.placed_in intake.acts)) (take l.writer-index l.writers)
