use Rattle.std.proofs.Common.{◌≡◌, ◌∙◌, ◌==◌, ℕ, List, [], ap, string_bytes, subst, sym}
use Rattle.std.proofs.lemmas.Result.{IfOk-weaker}
use Rattle.rtps_evidence.specs.declared.explanation.Explanation.{Explanation}
use Rattle.rtps_report.specs.Asked as asked
use Rattle.rtps_report.specs.FullReport as full_report
use Rattle.rtps_report.specs.Recording as recording
use Rattle.rtps_lines.specs.NoPairText as no_pair_text
use Rattle.rtps_check.specs.CheckText as check_text
use Rattle.rtps_check.proofs.ArrivedLemmas.{empty_list}
use Rattle.rtps_check.proofs.checked_text.remedy_of.Goals as goal

none_there : (rows : List Explanation) (asked : asked.AskedValue) (recording : recording.RecordingValue) (report : full_report.ReportValue) (text : List ℕ) → rows ≡ []
    → no_pair_text.IsRemedyOf asked recording report text → check_text.IsRemedyBy rows asked recording report text
none_there rows asked recording report text none is = subst (λ all. check_text.IsRemedyBy all asked recording report text) (sym none) is

pub returns-then-is_empty : goal.returns-then-is_empty
returns-then-is_empty c =
    let report = c.args.report.now in
    let asked = asked.asked_value report.asked.now in
    let recording = report.recording.now in
    let rows = report.explained.rows in
    let none : rows.items ≡ [] = empty_list rows.items (ap (λ (n : ℕ). n == 0) (sym rows.ok.0) ∙ sym c.is_empty.ensures ∙ c.if-is_empty.true) in
    IfOk-weaker c.no_pair_remedy.result (λ text. no_pair_text.IsRemedyOf asked recording (full_report.report_value report) (string_bytes text))
    (λ text. check_text.IsRemedyBy rows.items asked recording (full_report.report_value report) (string_bytes text)) (λ text is. none_there rows.items asked recording (full_report.report_value report) (string_bytes text) none is)
    c.no_pair_remedy.ensures
