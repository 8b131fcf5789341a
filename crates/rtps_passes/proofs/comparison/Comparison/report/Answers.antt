use Rattle.std.proofs.Common.{◌∙◌, ap}
use Rattle.rtps_audit.specs.Report as report
use Rattle.rtps_audit.proofs.Offered.{exact_report}
use Rattle.rtps_passes.specs.Judging as judging
use Rattle.rtps_passes.proofs.comparison.Comparison.report.Goals as goal

pub returns : goal.returns
returns c = λ intake from surveyed known.
    let rows = c.in_ok-rows.ensures from (judging.pairs_in c.args.survey.now.directory) intake.acts known in
    exact_report from intake _ (record { directory = c.args.survey.now.directory; is_map = surveyed.directory; pairs = rows.pairs_are; judged = rows.judged; counts = c.counts.ensures ∙ surveyed.counts _ ∙ ap (report.counts_of intake) c.unsettled.ensures })
