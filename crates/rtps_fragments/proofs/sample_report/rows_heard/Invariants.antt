use Rattle.std.proofs.Common.{◌≡◌, All, map, take}
use Rattle.std.specs.Prelude.{IfSome}
use Rattle.rtps_audit.specs.Index as index
use Rattle.rtps_audit.specs.Intake as intake
use Rattle.rtps_audit.specs.Report as report
use Rattle.rtps_fragments.specs.SampleReport as sample_report
use Rattle.rtps_fragments.proofs.sample_report.rows_heard.Given as goal

-- each row so far is by what its reader hears, and of the last writer it is known whether it sends fragments
abbrev pub invariant-loop-row : goal.invariant-loop-row
invariant-loop-row l = record {
  pairs : map (λ row. row.pair) l.heard.items ≡ map (λ row. row.pair) (take l.row-index l.rows);
  judged : (intake : intake.Intake) → index.IsIndexBy intake l.index → All (report.IsJudgedFrom l.from intake.acts) l.rows → All (sample_report.IsHeardFrom l.from intake.acts) l.heard.items;
  sender : IfSome l.last (sample_report.IsSender l.index);
}
