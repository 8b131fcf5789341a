use Rattle.std.proofs.Common.{◌≡◌, ◌∙◌, ap, ap₂, map, subst}
use Rattle.std.specs.Result.{IfOk}
use Rattle.std.specs.String.{string_bytes}
use Rattle.rtps_evidence.specs.Explanation as explanation
use Rattle.rtps_report.specs.Totals as totals
use Rattle.rtps_report.specs.declared.totals.Totals.{Totals}
use Rattle.rtps_lines.specs.Causes as causes_spec
use Rattle.rtps_lines.proofs.report_ends.report_causes.Goals as goal

pub returns : goal.returns
returns c =
    let report = c.args.report.now in
    subst (λ (totals : Totals). IfOk c.causes_of.result (λ causes. map string_bytes causes.items ≡ causes_spec.causes_of report.asked.now.certain totals (causes_spec.findings_in report.ending)))
    (c.totals_of-totals.ensures ∙ ap₂ totals.totals_of c.scope_of.ensures (ap (map explanation.explanation_value) c.deref.ensures.value)) c.causes_of.ensures
