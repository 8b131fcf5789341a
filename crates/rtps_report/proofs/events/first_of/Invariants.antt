use Rattle.std.proofs.Common.{◌≡◌, map, take}
use Rattle.rtps_evidence.specs.Kinds.{lost_value}
use Rattle.rtps_report.specs.Events.{first_among, rows_value}
use Rattle.rtps_report.proofs.events.first_of.Given as goal

-- of the rows so far
abbrev pub invariant-loop-row : goal.invariant-loop-row
invariant-loop-row l = l.first ≡ first_among (map lost_value l.losses.lost.now) (rows_value (take l.row-index l.rows))
