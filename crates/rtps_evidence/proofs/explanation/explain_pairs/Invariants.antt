use Rattle.std.proofs.Common.{◌-◌, ◌≤◌, All, length, take}
use Rattle.rtps_audit.specs.Intake as intake
use Rattle.rtps_audit.specs.Report as report
use Rattle.rtps_evidence.specs.OtherSide as other_side
use Rattle.rtps_evidence.specs.Together as together
use Rattle.rtps_evidence.proofs.explanation.explain_pairs.Given as goal

-- each pair so far is explained
abbrev pub invariant-writers : goal.invariant-writers
invariant-writers g l = record {
  within : l.start ≤ length l.pairs;
  rows : (intake : intake.Intake) (beside : other_side.Beside) → other_side.AreSides intake beside l.sides → All (report.IsJudgedFrom l.basis.extent.from intake.acts) l.basis.known.now
      → together.AreRows (record { spans = l.basis.extent.in_spans; from = l.basis.extent.from; beside = beside; intake = intake }) (take l.start l.pairs) l.explained;
}

abbrev pub decreases-writers : goal.decreases-writers
decreases-writers g l = length l.pairs - l.start
