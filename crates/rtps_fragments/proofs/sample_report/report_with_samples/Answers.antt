use Rattle.std.proofs.Common.{◌≡◌, ◌∙◌, All, List, ap, map, subst, sym}
use Rattle.rtps_audit.specs.Report as report_spec
use Rattle.rtps_audit.specs.declared.report.Row.{Row}
use Rattle.rtps_fragments.proofs.sample_report.report_with_samples.Goals as goal

pub returns : goal.returns
returns g c = λ intake is.
    let report = (c.in_ok-report.ensures intake is).report in
    record {
      directory = report.directory;
      is_map = report.is_map;
      pairs = c.in_ok-rows.ensures.pairs ∙ ap (map (λ (row : Row). row.pair)) c.deref.ensures.value ∙ report.pairs;
      judged = c.in_ok-rows.ensures.judged intake is (subst (All (report_spec.IsJudgedFrom c.args.from intake.acts)) (sym c.deref.ensures.value) report.judged);
      counts = report.counts;
    }
