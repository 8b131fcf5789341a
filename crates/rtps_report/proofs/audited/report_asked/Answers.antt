use Rattle.std.proofs.Common.{◌≡◌, ℕ, All, List, ap, subst, sym}
use Rattle.std.proofs.lemmas.List.Elements.{All-weaker}
use Rattle.std.proofs.lemmas.Result.{IfOk-weaker}
use Rattle.rtps_receiver.specs.Values as values
use Rattle.rtps_audit.specs.Delivered as delivered
use Rattle.rtps_audit.specs.Intake as intake_spec
use Rattle.rtps_audit.specs.Report as report_spec
use Rattle.rtps_audit.specs.RunVerdict as run_verdict
use Rattle.rtps_audit.specs.Speech as speech
use Rattle.rtps_audit.specs.declared.report.Report.{Report}
use Rattle.rtps_audit.specs.declared.report.Row.{Row}
use Rattle.rtps_fragments.specs.Laws as fragments_laws
use Rattle.rtps_fragments.specs.RecordedSamples as recorded_samples
use Rattle.rtps_fragments.specs.SampleReport as sample_report
use Rattle.rtps_fragments.specs.declared.fragments.Fragments.{Fragments}
use Rattle.rtps_report.proofs.audited.report_asked.Goals as goal

-- where no act sends fragments, the report by the acts as they are sent is the one by what each reader hears
plain_report : fragments_laws.ActsAreHeardWithoutFragments → (from : ℕ) (intake : intake_spec.Intake) (report : Report) → fragments_laws.SendNoFragments intake.acts → report_spec.IsReportBy from intake report → sample_report.IsReportHeard from intake report
plain_report stay from intake report none is = record {
  directory = is.directory;
  is_map = is.is_map;
  pairs = is.pairs;
  judged = All-weaker (report_spec.IsJudgedFrom from intake.acts) (sample_report.IsHeardFrom from intake.acts)
      (λ (row : Row) judged. subst (λ (acts : List (List values.ActValue)). run_verdict.IsVerdictFrom from (speech.speech_by row.pair.writer row.pair.reader acts) row.verdict) (sym (stay row.pair.reader intake.acts none)) judged) report.rows.items is.judged;
  counts = is.counts;
}

pub returns-in-Skipped : goal.returns-in-Skipped
returns-in-Skipped g c = λ recording is.
    let intake = recorded_samples.intake_as c.args.asked.fragments recording in
    let unsent = subst (λ (f : Fragments). fragments_laws.SendNoFragments (recorded_samples.intake_as f recording).acts) (sym c.in-Skipped.is) (c.skipped_fragments_are_not_sent.ensures recording) in
    IfOk-weaker c.report_from.result (delivered.IsExactReportBy c.args.asked.from intake) (sample_report.IsReportHeard c.args.asked.from intake)
    (λ report exact. plain_report c.acts_are_heard_without_fragments.ensures c.args.asked.from intake report unsent exact.report) (c.report_from.ensures intake is)
