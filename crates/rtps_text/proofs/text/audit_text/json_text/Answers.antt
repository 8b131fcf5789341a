use Rattle.std.proofs.Common.{◌∙◌, Bool, List, ap, if◌then◌else◌, map}
use Rattle.std.specs.List.{list_all}
use Rattle.rtps_report.specs.Reported as reported
use Rattle.rtps_evidence.specs.declared.explanation.Explanation.{Explanation}
use Rattle.rtps_evidence.specs.Explanation as explanation
use Rattle.rtps_report.specs.declared.findings.Ending.{Ending}
use Rattle.rtps_text.proofs.text.audit_text.json_text.Goals as goal

pub returns : goal.returns
returns g c = record {
  explained = c.in_ok-explained.explained;
  explains = c.in_ok-explained.ensures;
  is_text = c.in_ok-text.ensures;
  ends = c.ending_if.ensures ∙ ap (λ (complete : Bool). if complete then Ending.Clean else Ending.Unclean)
      (c.all_complete.ensures ∙ ap (λ (rows : List Explanation). list_all (λ row. reported.is_complete row.verdict) (map explanation.row_of rows)) c.deref.ensures.value);
}
