use Rattle.std.proofs.Common.{◌∙◌, ap}
use Rattle.rtps_audit.specs.Report as report
use Rattle.rtps_audit.proofs.ExactVerdicts.{exact_report}
use Rattle.rtps_audit.proofs.index.Index.report_from.Goals as goal

pub returns : goal.returns
returns g c = λ intake is.
    exact_report c.args.from intake _
    (record {
      directory = _;
      is_map = is.directory;
      pairs = (c.in_ok-rows.ensures intake is).pairs_are ∙ c.deref.ensures.value ∙ c.in_ok-pairs.ensures;
      judged = (c.in_ok-rows.ensures intake is).judged;
      counts = c.counts.ensures ∙ is.counts _ ∙ ap (report.counts_of intake) c.unsettled.ensures;
    })
