use Rattle.std.proofs.Common.{◌≡◌, take}
use Rattle.rtps_report.specs.Events as events
use Rattle.rtps_report.proofs.events.asked_of.Given as goal

-- of the rows so far
abbrev pub invariant-loop-row : goal.invariant-loop-row
invariant-loop-row l = l.asked ≡ events.asked_among l.key (events.rows_value (take l.row-index l.rows))
