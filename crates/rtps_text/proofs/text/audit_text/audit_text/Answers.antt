use Rattle.std.proofs.Common.{◌∙◌, ap}
use Rattle.rtps_text.specs.ReportText as report_text
use Rattle.rtps_text.proofs.text.audit_text.audit_text.Goals as goal

pub returns : goal.returns
returns g c =
    let report = c.in_ok-report.report in
    record {
      report = report;
      reports = c.in_ok-report.ensures;
      is_text = c.in_ok-audited.ensures.text ∙ ap (report_text.report_text report.rows.items report.counts) c.ignored.ensures;
      ends = c.in_ok-audited.ensures.ends;
    }
