use Rattle.std.proofs.Common.{◌-◌, length, take}
use Rattle.rtps_audit.specs.Account as account
use Rattle.rtps_audit.specs.Index as index
use Rattle.rtps_audit.specs.Intake as intake
use Rattle.rtps_audit.proofs.report.rows_of.Given as goal

-- a row for each pair so far
abbrev pub invariant-writers : goal.invariant-writers
invariant-writers g l = (intake : intake.Intake) → index.IsIndexBy intake l.index → account.AreRowsOf l.fn.from intake.acts (take l.start l.pairs) l.rows.items

abbrev pub decreases-writers : goal.decreases-writers
decreases-writers g l = length l.pairs - l.start
