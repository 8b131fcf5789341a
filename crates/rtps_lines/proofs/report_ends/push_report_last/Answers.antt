use Rattle.std.proofs.Common.{◌++◌, ◌∙◌, List, ℕ, ap, ap₂, map}
use Rattle.std.proofs.lemmas.Result.{on_ok_weaker}
use Rattle.std.specs.String.{string_bytes}
use Rattle.rtps_evidence.specs.Explanation as explanation
use Rattle.rtps_report.specs.Totals as totals
use Rattle.rtps_report.specs.declared.best_effort.BestEffortNumbers.{BestEffortNumbers}
use Rattle.rtps_report.specs.declared.totals.Totals.{Totals}
use Rattle.rtps_lines.specs.Causes as causes_spec
use Rattle.rtps_lines.proofs.report_ends.push_report_last.Goals as goal

pub returns : goal.returns
returns c =
    let report = c.args.report.now in
    let totals = c.totals_of-totals.ensures ∙ ap₂ totals.totals_of c.scope_of.ensures (ap (map explanation.explanation_value) c.deref.ensures.value) in
    let causes = ap (map string_bytes) c.deref-2.ensures.value ∙ c.in_ok-causes.ensures in
    let line : Totals → BestEffortNumbers → List (List ℕ) → List ℕ = λ all told reasons. string_bytes c.args.text.now ++ causes_spec.last_line all told report.ending reasons in
    on_ok_weaker c.push_last.result (λ last. last ∙ (λ i. line (totals i) (c.told.ensures i) (causes i))) c.push_last.ensures
