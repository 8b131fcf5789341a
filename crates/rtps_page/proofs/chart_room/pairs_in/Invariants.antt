use Rattle.std.proofs.Common.{◌≡◌, map, take}
use Rattle.rtps_evidence.specs.Explanation as explanation
use Rattle.rtps_page.specs.ChartRoom as chart_room
use Rattle.rtps_page.proofs.chart_room.pairs_in.Given as goal

abbrev pub invariant-loop-row : goal.invariant-loop-row
invariant-loop-row l = l.pairs.items ≡ chart_room.pairs_of (map explanation.explanation_value (take l.row-index l.rows))
