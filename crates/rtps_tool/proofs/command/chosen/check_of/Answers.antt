use Rattle.std.proofs.Common.{Some, subst}
use Rattle.std.specs.Prelude.{IfOk}
use Rattle.clap.specs.Words.{Text, found_of, rows_of}
use Rattle.rtps_tool.specs.Words as words
use Rattle.rtps_tool.proofs.command.chosen.check_of.Goals as goal

pub returns : goal.returns
returns c = subst (λ (name : Text). IfOk c.report_of.result (words.IsChoice (Some (name, rows_of (found_of c.args.check.now))))) c.check_form_of.ensures.of_check c.report_of.ensures
