-- Each command prints one text of a recording, and ends in one way.
use Rattle.std.proofs.Common.{◌≡◌, ◌∙◌, ℕ, List, Option, subst, sym}
use Rattle.rtps_fragments.specs.declared.fragments.Fragments.{Fragments}
use Rattle.rtps_report.specs.Asked as asked
use Rattle.rtps_report.specs.FullReport as full_report
use Rattle.rtps_report.specs.Laws as laws
use Rattle.rtps_report.specs.Recording as recording
use Rattle.rtps_report.specs.declared.audited.AskedAudit.{AskedAudit}
use Rattle.rtps_report.specs.declared.findings.Ending.{Ending}
use Rattle.rtps_check.specs.CheckText as check_text
use Rattle.rtps_page.specs.Page as page
use Rattle.rtps_text.specs.ReportText as report_text
use Rattle.rtps_text.specs.ListText as list_text
use Rattle.rtps_text.specs.ShowText as show_text
use Rattle.rtps_text.specs.WhyText as why_text
use Rattle.rtps_tool.specs.Commands as commands
use Rattle.rtps_tool.specs.declared.runs.Form.{Form}

-- what each crate of texts says of its own
pub record OneTextEach : Type 0 where
  pub shown : (choice : Fragments) → laws.HasOneText (show_text.IsShownWith choice)
  pub listed : (choice : Fragments) → laws.HasOneText (list_text.IsListedWith choice)
  pub audited : (asked : AskedAudit) → laws.HasOneText (report_text.IsAuditedAs asked)
  pub json : (asked : AskedAudit) → laws.HasOneText (report_text.IsJsonTextAs asked)
  pub why : (asked : asked.AskedValue) (other : Option recording.RecordingValue) → laws.HasOneText (why_text.IsWhyAs asked other)
  pub check : (asked : asked.AskedValue) (other : Option recording.RecordingValue) → laws.HasOneText (check_text.IsCheckedTextAs asked other)
  pub check_json : (asked : asked.AskedValue) (other : Option recording.RecordingValue) → laws.HasOneText (check_text.IsCheckedJsonAs asked other)
  pub page : page.HasOnePage

one_page : OneTextEach → (name : List ℕ) (asked : asked.AskedValue) (theirs : Option recording.RecordingValue) → laws.HasOneText (full_report.IsTold (commands.IsPageForm name) asked theirs)
one_page each name asked theirs recording one other ending last is also =
    let plain = is.is_text.0 in
    let shown = also.is_text.0 in
    let told : full_report.IsTold check_text.IsCheckText asked theirs recording plain ending = record { report = is.report; is_report = is.is_report; is_text = is.is_text.1; ends = is.ends } in
    let again : full_report.IsTold check_text.IsCheckText asked theirs recording shown last = record { report = also.report; is_report = also.is_report; is_text = also.is_text.1; ends = also.ends } in
    let same = each.check asked theirs recording plain shown ending last told again in
    let page : page.IsPageOf (commands.origin_of name) asked recording also.report plain other = subst (λ text. page.IsPageOf (commands.origin_of name) asked recording also.report text other) (sym same.0) also.is_text.2 in
    (each.page (commands.origin_of name) asked theirs recording is.report also.report plain one other is.is_report also.is_report is.is_text.2 page, same.1)

pub one_text_of : OneTextEach → (command : commands.CommandValue) (other : Option recording.RecordingValue) → laws.HasOneText (commands.IsTextOf command other)
one_text_of each (commands.CommandValue.Report Form.Check name asked) other = λ recording one two ending last is also. each.check asked other recording one two ending last
    (record { report = is.report; is_report = is.is_report; is_text = is.is_text; ends = is.ends }) (record { report = also.report; is_report = also.is_report; is_text = also.is_text; ends = also.ends })
one_text_of each (commands.CommandValue.Report Form.CheckJson name asked) other = λ recording one two ending last is also. each.check_json asked other recording one two ending last
    (record { report = is.report; is_report = is.is_report; is_text = is.is_text; ends = is.ends }) (record { report = also.report; is_report = also.is_report; is_text = also.is_text; ends = also.ends })
one_text_of each (commands.CommandValue.Report Form.Why name asked) other = λ recording one two ending last is also. each.why asked other recording one two ending last
    (record { report = is.report; is_report = is.is_report; is_text = is.is_text; ends = is.ends }) (record { report = also.report; is_report = also.is_report; is_text = also.is_text; ends = also.ends })
one_text_of each (commands.CommandValue.Report Form.Page name asked) other = λ recording one two ending last is also. one_page each name asked other recording one two ending last
    (record { report = is.report; is_report = is.is_report; is_text = is.is_text; ends = is.ends }) (record { report = also.report; is_report = also.is_report; is_text = also.is_text; ends = also.ends })
one_text_of each (commands.CommandValue.Show choice) other = each.shown choice
one_text_of each (commands.CommandValue.Listing choice) other = each.listed choice
one_text_of each (commands.CommandValue.Audit asked) other = each.audited asked
one_text_of each (commands.CommandValue.Json asked) other = each.json asked
