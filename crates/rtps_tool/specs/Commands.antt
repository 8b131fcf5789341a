-- What is printed of a recording.
-- own: a text, and how the run ends. `check`, `why`, `page` and `check --json` are forms of one value.
use Rattle.std.specs.Prelude.{ℕ, List, Option}
use Rattle.rtps_fragments.specs.declared.fragments.Fragments.{Fragments}
use Rattle.rtps_report.specs.Asked as asked_spec
use Rattle.rtps_report.specs.FullReport as full_report
use Rattle.rtps_report.specs.Recording as recording
use Rattle.rtps_report.specs.declared.audited.AskedAudit.{AskedAudit}
use Rattle.rtps_report.specs.declared.findings.Ending.{Ending}
use Rattle.rtps_check.specs.CheckText as check_text
use Rattle.rtps_page.specs.Origin as origin
use Rattle.rtps_page.specs.Page as page
use Rattle.rtps_text.specs.ReportText as report_text
use Rattle.rtps_text.specs.ListText as list_text
use Rattle.rtps_text.specs.ShowText as show_text
use Rattle.rtps_text.specs.WhyText as why_text
use Rattle.rtps_tool.specs.declared.command.TheConstants as command_constants
use Rattle.rtps_tool.specs.declared.runs.Command.{Command}
use Rattle.rtps_tool.specs.declared.runs.Form.{Form}

-- what a page says of its making: the name of its recording, and the version of this program
abbrev pub origin_of : List ℕ → origin.OriginValue
origin_of name = record { name = name; version = command_constants.VERSION.now }

-- the page of a report on the recording of a name: it shows the text of `check` where scripts do not run
abbrev pub IsPageForm : List ℕ → asked_spec.AskedValue → recording.RecordingValue → full_report.ReportValue → List ℕ → Type 0
IsPageForm name asked recording report text = (plain : List ℕ) × check_text.IsCheckText asked recording report plain × page.IsPageOf (origin_of name) asked recording report plain text

-- a report on the recording of a name, in a form
abbrev pub IsFormOf : Form → List ℕ → asked_spec.AskedValue → recording.RecordingValue → full_report.ReportValue → List ℕ → Type 0
IsFormOf Form.Check name asked recording report text = check_text.IsCheckText asked recording report text
IsFormOf Form.CheckJson name asked recording report text = check_text.IsCheckJson asked recording report text
IsFormOf Form.Why name asked recording report text = why_text.IsWhyText asked recording report text
IsFormOf Form.Page name asked recording report text = IsPageForm name asked recording report text

-- what is printed, with what is asked as a value
pub data CommandValue : Type 0 where
  Report : (form : Form) → (name : List ℕ) → (asked : asked_spec.AskedValue) → CommandValue
  Show : (fragments : Fragments) → CommandValue
  Listing : (fragments : Fragments) → CommandValue
  Audit : (asked : AskedAudit) → CommandValue
  Json : (asked : AskedAudit) → CommandValue

-- that of the code, as a value
abbrev pub command_value : Command → CommandValue
command_value (Command.Report form name asked) = Report form name.now (asked_spec.asked_value asked)
command_value (Command.Show fragments) = Show fragments
command_value (Command.List fragments) = Listing fragments
command_value (Command.Audit asked) = Audit asked
command_value (Command.Json asked) = Json asked

-- by a command: of this recording, beside another one, if there is one, this text and this ending. `show`, `list` and `audit` tell of the
-- recording alone
abbrev pub IsTextOf : CommandValue → Option recording.RecordingValue → recording.RecordingValue → List ℕ → Ending → Type 0
IsTextOf (Report form name asked) other = full_report.IsTold (IsFormOf form name) asked other
IsTextOf (Show fragments) other = show_text.IsShownWith fragments
IsTextOf (Listing fragments) other = list_text.IsListedWith fragments
IsTextOf (Audit asked) other = report_text.IsAuditedAs asked
IsTextOf (Json asked) other = report_text.IsJsonTextAs asked
