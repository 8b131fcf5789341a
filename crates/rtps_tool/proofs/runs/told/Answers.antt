use Rattle.std.proofs.Common.{List, refl, subst, sym}
use Rattle.std.specs.String.{string_bytes}
use Rattle.rtps_audit.specs.Index as index
use Rattle.rtps_fragments.specs.RecordedSamples as recorded_samples
use Rattle.rtps_fragments.specs.declared.fragments.Fragments.{Fragments}
use Rattle.rtps_report.specs.Asked as asked
use Rattle.rtps_report.specs.FullReport as full_report
use Rattle.rtps_report.specs.Recording as recording
use Rattle.rtps_tool.specs.Commands as commands
use Rattle.rtps_tool.proofs.runs.told.Goals as goal

pub form_text-requires : goal.form_text-requires
form_text-requires g c =
    let report = c.in_ok-report.report in
    let is = c.in_ok-report.ensures in
    subst (λ (recording : recording.RecordingValue). index.IsIndexBy (recorded_samples.intake_as Fragments.Read recording.datagrams) report.index) (sym is.records) is.indexes

pub returns : goal.returns
returns g c =
    let told_as = c.args.told_as in
    let report = c.in_ok-report.report in
    let is = c.in_ok-report.ensures in
    let text = string_bytes c.in_ok-text.text in
    let by_asked = subst (λ (asked : asked.AskedValue). commands.IsFormOf told_as.form told_as.name.now asked report.recording.now (full_report.report_value report) text) is.asks c.in_ok-text.ensures in
    record {
      report = full_report.report_value report;
      is_report = is.is_report;
      is_text = subst (λ (recording : recording.RecordingValue). commands.IsFormOf told_as.form told_as.name.now (asked.asked_value c.args.inquiry.asked.now) recording (full_report.report_value report) text) is.records by_asked;
      ends = refl;
    }
