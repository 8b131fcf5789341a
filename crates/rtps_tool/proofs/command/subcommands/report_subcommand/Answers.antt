use Rattle.std.proofs.Common.{◌∙◌, refl, ap, ap₂, codes}
use Rattle.std.proofs.lemmas.Result.{IfOk-weaker}
use Rattle.clap.specs.Words.{with_rule}
use Rattle.rtps_tool.specs.Words as words
use Rattle.rtps_tool.proofs.command.subcommands.report_subcommand.Goals as goal

pub with_rows-requires : goal.with_rows-requires
with_rows-requires c =
    let from = c.number_option-from.ensures in
    rw (c.in_ok-numbered.ensures.globals, c.in_ok-limited.ensures.local, from.local) refl

pub returns : goal.returns
returns c =
    let from = c.number_option-from.ensures in
    let numbered = c.in_ok-numbered.ensures.shape from.local ∙ ap₂ with_rule c.in_ok-limited.ensures.app from.rule in
    let chosen = c.in_ok-chosen.ensures.app ∙ ap (λ app. with_rule (with_rule (with_rule app words.pattern_rule) words.node_rule) words.expect_rule) numbered in
    let held = c.in_ok-held.ensures.app ∙ ap (λ app. with_rule (with_rule app words.tail_rule) (words.flag_rule (codes "certain"))) chosen in
    let arrived = c.arrived_option.ensures in
    record {
      app = IfOk-weaker c.arg-2.result _ _ (λ command added. added.shape arrived.local ∙ ap₂ with_rule held arrived.rule) c.arg-2.ensures;
      local = IfOk-weaker c.arg-2.result _ _ (λ command added. rw (added.globals, c.in_ok-held.ensures.local, arrived.local) refl) c.arg-2.ensures;
    }
