-- What a run does by what the words chose.
-- own: each subcommand is one run.
use Rattle.std.specs.Prelude.{ℕ, ◌≡◌, List, Option, Some, None, Result}
use Rattle.std.specs.String.{string_bytes}
use Rattle.clap.specs.Words.{Text}
use Rattle.rtps_text.specs.SampleText as sample_text
use Rattle.rtps_report.specs.declared.audited.AskedAudit.{AskedAudit}
use Rattle.rtps_report.specs.declared.findings.Ending.{Ending}
use Rattle.rtps_tool.specs.Commands as commands
use Rattle.rtps_tool.specs.Options as options
use Rattle.rtps_tool.specs.Runs as runs
use Rattle.rtps_capture.specs.declared.captures.Captures.{Captures}
use Rattle.rtps_tool.specs.declared.command.AuditForm.{AuditForm}
use Rattle.rtps_tool.specs.declared.command.Choice.{Choice}
use Rattle.rtps_tool.specs.declared.faults.BesideFault.{BesideFault}

-- what prints an audit in this form
abbrev pub audit_command : AuditForm → AskedAudit → commands.CommandValue
audit_command AuditForm.Lines asked = commands.CommandValue.Audit asked
audit_command AuditForm.Json asked = commands.CommandValue.Json asked

-- the options of its run; `sample` reads nothing, and has none
abbrev pub options_of : Choice → Option options.OptionsValue
options_of (Choice.Report file arrived limits form demands) = Some (record { command = commands.CommandValue.Report form (string_bytes file) (options.asked_by demands); limits = limits; captures = Captures.Any })
options_of (Choice.Show file limits captures fragments) = Some (record { command = commands.CommandValue.Show fragments; limits = limits; captures = captures })
options_of (Choice.List file limits captures fragments) = Some (record { command = commands.CommandValue.Listing fragments; limits = limits; captures = captures })
options_of (Choice.Audit file limits captures form asked) = Some (record { command = audit_command form asked; limits = limits; captures = captures })
options_of Choice.Sample = None

-- the run with these options, beside the other recording of this name, if there is one; without options, the sample is written, and both
-- readers stay as they are
abbrev pub RunsBy : Option options.OptionsValue → (name : Option Text) → (unread left theirs rest held holds : Option (List ℕ)) → Result Ending BesideFault → Type 0
RunsBy (Some options) (Some name) unread left theirs rest held holds result =
    runs.RunsBeside options.limits options.captures (commands.IsTextOf options.command) unread left theirs rest held holds result
RunsBy (Some options) None unread left theirs rest held holds result =
    runs.RunsAlone (runs.RunsWithin options.limits options.captures (commands.IsTextOf options.command None) unread left held holds) theirs rest result
RunsBy None name unread left theirs rest held holds result = (left ≡ unread) × runs.RunsAlone (runs.Writes sample_text.sample held holds) theirs rest result
