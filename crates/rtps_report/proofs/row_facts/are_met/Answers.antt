use Rattle.std.proofs.Common.{◌∙◌, sym}
use Rattle.std.proofs.lemmas.List.Folds.{list_all-map, list_all_at}
use Rattle.rtps_evidence.specs.declared.explanation.Explanation.{Explanation}
use Rattle.rtps_evidence.specs.Explanation as explanation
use Rattle.rtps_report.specs.Asked as asked
use Rattle.rtps_report.specs.FullReport as full_report
use Rattle.rtps_report.proofs.row_facts.are_met.Goals as goal

pub returns-then-not-is_met : goal.returns-then-not-is_met
returns-then-not-is_met c =
    let rows = c.args.rows.now in
    let test = λ (row : explanation.ExplanationValue). full_report.is_met (asked.asked_value c.args.asked.now) row.evidence in
    sym (list_all-map test explanation.explanation_value rows
    ∙ list_all_at (λ (row : Explanation). test (explanation.explanation_value row)) rows c.loop-row.row-index _ c.loop-row-test.true (sym c.is_met.ensures ∙ c.if-not-is_met.true))
