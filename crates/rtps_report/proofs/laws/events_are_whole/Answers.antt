use Rattle.rtps_report.specs.FullReport as full_report
use Rattle.rtps_report.proofs.EventLaws.{events_whole}
use Rattle.rtps_report.proofs.laws.events_are_whole.Goals as goal

pub returns : goal.returns
returns c = λ asked report. events_whole asked report.talk (full_report.lost_of report) (full_report.rows_of report)
