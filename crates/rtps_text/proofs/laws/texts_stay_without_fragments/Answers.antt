use Rattle.std.proofs.Common.{ℕ, ◌≡◌, List, sym}
use Rattle.rtps_fragments.specs.declared.fragments.Fragments.{Fragments}
use Rattle.rtps_fragments.specs.RecordedSamples as recorded_samples
use Rattle.rtps_report.specs.declared.findings.Ending.{Ending}
use Rattle.rtps_report.specs.Recording as recording
use Rattle.rtps_report.specs.declared.audited.AskedAudit.{AskedAudit}
use Rattle.rtps_report.proofs.Offered.{choosing, explained_same, report_same}
use Rattle.rtps_text.specs.ReportText as report_text
use Rattle.rtps_text.proofs.laws.texts_stay_without_fragments.Goals as goal

audited_same : (asked : AskedAudit) (one other : Fragments) (recording : recording.RecordingValue) (text : List ℕ) (ending : Ending)
    → recorded_samples.intake_as one recording.datagrams ≡ recorded_samples.intake_as other recording.datagrams
    → report_text.IsAuditedAs (choosing asked one) recording text ending → report_text.IsAuditedAs (choosing asked other) recording text ending
audited_same asked one other recording text ending same is =
    record { report = is.report; reports = report_same asked one other recording.datagrams is.report same is.reports; is_text = is.is_text; ends = is.ends }

json_same : (asked : AskedAudit) (one other : Fragments) (recording : recording.RecordingValue) (text : List ℕ) (ending : Ending)
    → recorded_samples.intake_as one recording.datagrams ≡ recorded_samples.intake_as other recording.datagrams
    → report_text.IsJsonTextAs (choosing asked one) recording text ending → report_text.IsJsonTextAs (choosing asked other) recording text ending
json_same asked one other recording text ending same is =
    record { explained = is.explained; explains = explained_same asked one other recording.datagrams is.explained same is.explains; is_text = is.is_text; ends = is.ends }

pub returns-clause-audited : goal.returns-clause-audited
returns-clause-audited c = λ asked recording text ending none.
    let same = c.intake_stays_without_fragments.ensures recording.datagrams none in
    (audited_same asked Fragments.Read Fragments.Skipped recording text ending same, audited_same asked Fragments.Skipped Fragments.Read recording text ending (sym same))

pub returns-clause-json : goal.returns-clause-json
returns-clause-json c = λ asked recording text ending none.
    let same = c.intake_stays_without_fragments.ensures recording.datagrams none in
    (json_same asked Fragments.Read Fragments.Skipped recording text ending same, json_same asked Fragments.Skipped Fragments.Read recording text ending (sym same))
