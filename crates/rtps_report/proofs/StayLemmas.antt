-- What is said of a recording by one intake is said by another that is the same.
use Rattle.std.proofs.Common.{◌≡◌, List, ℕ, false, subst}
use Rattle.rtps_evidence.specs.OtherSide as other_side
use Rattle.rtps_evidence.specs.declared.explanation.Explained.{Explained}
use Rattle.rtps_fragments.specs.declared.fragments.Fragments.{Fragments}
use Rattle.rtps_evidence.specs.Explanation as explanation
use Rattle.rtps_audit.specs.declared.report.Report.{Report}
use Rattle.rtps_fragments.specs.RecordedSamples as recorded_samples
use Rattle.rtps_fragments.specs.SampleReport as sample_report
use Rattle.rtps_report.specs.Reported as reported
use Rattle.rtps_report.specs.declared.audited.AskedAudit.{AskedAudit}

-- the same is asked, with this choice
abbrev pub choosing : AskedAudit → Fragments → AskedAudit
choosing asked choice = record asked { fragments = choice }

pub report_same : (asked : AskedAudit) (one other : Fragments) (recording : List (List ℕ)) (report : Report) → recorded_samples.intake_as one recording ≡ recorded_samples.intake_as other recording
    → reported.IsReportAs (choosing asked one) recording report → reported.IsReportAs (choosing asked other) recording report
report_same asked one other recording report same is = subst (λ intake. sample_report.IsReportHeard asked.from intake report) same is

pub explained_same : (asked : AskedAudit) (one other : Fragments) (recording : List (List ℕ)) (explained : Explained) → recorded_samples.intake_as one recording ≡ recorded_samples.intake_as other recording
    → reported.IsAuditExplained (choosing asked one) recording explained → reported.IsAuditExplained (choosing asked other) recording explained
explained_same asked one other recording explained same is = subst (λ intake. explanation.IsExplainedBy false asked.from other_side.alone intake explained) same is
