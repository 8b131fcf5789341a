use Rattle.std.proofs.Common.{◌∙◌, rules, sym}
use Rattle.std.proofs.lemmas.Iterator.Search.{all_from_yields_List}
use Rattle.std.proofs.lemmas.Iterator.{YieldsList-from_slice}
use Rattle.std.proofs.lemmas.List.Folds.{list_all-map}
use Rattle.rtps_audit.specs.declared.report.Row.{Row}
use Rattle.rtps_report.specs.Reported as reported
use Rattle.rtps_evidence.specs.declared.explanation.Explanation.{Explanation}
use Rattle.rtps_evidence.specs.Explanation as explanation
use Rattle.rtps_text.proofs.text.audit_text.all_complete.Goals as goal

pub returns : goal.returns
returns c =
    let test = λ (row : Explanation). reported.is_complete row.evidence.verdict in
    let rows = c.args.rows.now in
    all_from_yields_List test _ _ _ c.all.ensures.ran (YieldsList-from_slice rows c.iter.ensures.rest) (λ x b q k. search (rules))
    ∙ sym (list_all-map (λ (row : Row). reported.is_complete row.verdict) explanation.row_of rows)
