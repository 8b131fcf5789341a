use Rattle.std.proofs.Common.{◌≡◌, ◌∙◌, false, refl, ap₂}
use Rattle.std.proofs.lemmas.Result.{IfOk-weaker}
use Rattle.clap.specs.Words.{with_rule}
use Rattle.clap.specs.declared.builder.command.Command.TheViews.{out-Command}
use Rattle.rtps_tool.proofs.command.subcommands.audit_subcommand.Goals as goal

pub returns : goal.returns
returns c =
    let from = c.number_option-from.ensures in
    let numbered = c.in_ok-numbered.ensures.shape from.local ∙ ap₂ with_rule c.in_ok-reading.ensures.app from.rule in
    let local : (out-Command c.in_ok-numbered.numbered).has_globals ≡ false = rw (c.in_ok-numbered.ensures.globals, c.in_ok-reading.ensures.local, from.local) refl in
    let json = c.flag.ensures in
    record {
      app = IfOk-weaker c.arg-2.result _ _ (λ command added. added.shape json.local ∙ ap₂ with_rule numbered json.rule) c.arg-2.ensures;
      local = IfOk-weaker c.arg-2.result _ _ (λ command added. rw (added.globals, local, json.local) refl) c.arg-2.ensures;
    }
