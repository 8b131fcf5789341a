use Rattle.std.proofs.Common.{◌∙◌, refl, ap₂}
use Rattle.std.proofs.lemmas.Result.{IfOk-weaker}
use Rattle.clap.specs.Words.{with_rule}
use Rattle.rtps_tool.proofs.command.subcommands.reading_subcommand.Goals as goal

pub returns : goal.returns
returns c =
    let any = c.flag.ensures in
    record {
      app = IfOk-weaker c.arg.result _ _ (λ command added. added.shape any.local ∙ ap₂ with_rule c.in_ok-limited.ensures.app any.rule) c.arg.ensures;
      local = IfOk-weaker c.arg.result _ _ (λ command added. rw (added.globals, c.in_ok-limited.ensures.local, any.local) refl) c.arg.ensures;
    }
