use Rattle.std.proofs.Common.{◌≡◌, map, take}
use Rattle.rtps_evidence.specs.Explanation as explanation
use Rattle.rtps_report.specs.Events as events
use Rattle.rtps_check.proofs.event_blocks.copied.Given as goal

abbrev pub invariant-loop-row : goal.invariant-loop-row
invariant-loop-row l = map explanation.explanation_value l.copies.items ≡ events.rows_value (take l.row-index l.rows)
