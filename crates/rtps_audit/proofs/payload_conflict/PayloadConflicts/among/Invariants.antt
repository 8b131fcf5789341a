use Rattle.std.proofs.Common.{◌-◌, length}
use Rattle.rtps_audit.proofs.PayloadRuns.{ArePassed}
use Rattle.rtps_audit.proofs.payload_conflict.PayloadConflicts.among.Given as goal

-- whole runs are passed
abbrev pub invariant-runs : goal.invariant-runs
invariant-runs l = ArePassed l.entries l.start l.payloads.items

abbrev pub decreases-runs : goal.decreases-runs
decreases-runs l = length l.entries - l.start
