use Rattle.std.proofs.Common.{◌≡◌, map, take}
use Rattle.rtps_evidence.specs.Kinds as kinds
use Rattle.rtps_report.specs.Events as events
use Rattle.rtps_report.proofs.events.last_of.Given as goal

-- of the rows so far
abbrev pub invariant-loop-row : goal.invariant-loop-row
invariant-loop-row l = l.last ≡ events.last_among (map kinds.lost_value l.losses.lost.now) (events.rows_value (take l.row-index l.rows))
