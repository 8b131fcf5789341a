use Rattle.std.proofs.Common.{◌≡◌, ◌++◌, flat_map, take}
use Rattle.rtps_audit.specs.Index as index
use Rattle.rtps_audit.specs.Intake as intake
use Rattle.rtps_audit.specs.Placed as placed
use Rattle.rtps_page.specs.ChartTimes as chart_times
use Rattle.rtps_page.proofs.chart_times.add_all_answered.Given as goal

abbrev pub invariant-loop-pair : goal.invariant-loop-pair
invariant-loop-pair l = (intake : intake.Intake) → index.IsIndexBy intake l.index → l.numbers.items ≡ l.initial.numbers.items ++ flat_map (chart_times.answered_in (placed.placed_in intake.acts)) (take l.pair-index l.pairs)
