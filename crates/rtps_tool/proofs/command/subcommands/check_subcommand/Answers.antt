use Rattle.std.proofs.Common.{◌∙◌, refl, ap₂}
use Rattle.std.proofs.lemmas.Result.{IfOk-weaker}
use Rattle.clap.specs.Words.{with_rule}
use Rattle.rtps_tool.proofs.command.subcommands.check_subcommand.Goals as goal

pub returns : goal.returns
returns c =
    let json = c.flag.ensures in
    record {
      app = IfOk-weaker c.arg.result _ _ (λ command added. added.shape json.local ∙ ap₂ with_rule c.in_ok-report.ensures.app json.rule) c.arg.ensures;
      local = IfOk-weaker c.arg.result _ _ (λ command added. rw (added.globals, c.in_ok-report.ensures.local, json.local) refl) c.arg.ensures;
    }
