-- What `audit` tells of a recording: its rows and its counts, by verdicts alone, or explained.
-- own: it judges the whole recording, so that what it prints is what the theorem says of it.
use Rattle.std.specs.Prelude.{ℕ, ℤ, Bool, true, false, List}
use Rattle.rtps_evidence.specs.OtherSide as other_side
use Rattle.rtps_evidence.specs.declared.explanation.Explained.{Explained}
use Rattle.rtps_evidence.specs.Explanation as explanation
use Rattle.rtps_audit.specs.declared.report.Report.{Report}
use Rattle.rtps_audit.specs.declared.verdict.Verdict.{Verdict}
use Rattle.rtps_fragments.specs.RecordedSamples as recorded_samples
use Rattle.rtps_fragments.specs.SampleReport as sample_report
use Rattle.rtps_report.specs.declared.audited.AskedAudit.{AskedAudit}

-- the verdict is that each number is acknowledged
abbrev pub is_complete : Verdict → Bool
is_complete (Verdict.Complete last) = true
is_complete verdict = false

-- the number of a verdict
abbrev pub number_of : Verdict → ℤ
number_of (Verdict.Complete last) = last
number_of (Verdict.Open number) = number
number_of (Verdict.Conflict number) = number
number_of (Verdict.Unfounded datagram number) = number

-- it is the report on the recording, by the numbers that are asked about. Where fragments are read, each row is by the samples that its reader
-- can put together
abbrev pub IsReportAs : AskedAudit → List (List ℕ) → Report → Type 0
IsReportAs asked recording report = sample_report.IsReportHeard asked.from (recorded_samples.intake_as asked.fragments recording) report

-- the same report with what each of its rows rests on, by the whole recording
abbrev pub IsAuditExplained : AskedAudit → List (List ℕ) → Explained → Type 0
IsAuditExplained asked recording explained = explanation.IsExplainedBy false asked.from other_side.alone (recorded_samples.intake_as asked.fragments recording) explained
