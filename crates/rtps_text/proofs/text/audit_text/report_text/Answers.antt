use Rattle.std.proofs.Common.{◌∙◌, Bool, List, ap, if◌then◌else◌}
use Rattle.std.specs.List.{list_all}
use Rattle.rtps_report.specs.Reported as reported
use Rattle.rtps_audit.specs.declared.report.Row.{Row}
use Rattle.rtps_report.specs.declared.findings.Ending.{Ending}
use Rattle.rtps_text.proofs.text.audit_text.report_text.Goals as goal

pub returns-clause-ends : goal.returns-clause-ends
returns-clause-ends c =
    c.ending_if.ensures ∙ ap (λ (complete : Bool). if complete then Ending.Clean else Ending.Unclean)
    (c.are_complete.ensures ∙ ap (λ (rows : List Row). list_all (λ row. reported.is_complete row.verdict) rows) c.deref-2.ensures.value)
