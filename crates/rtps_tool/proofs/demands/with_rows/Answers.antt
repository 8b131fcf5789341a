use Rattle.std.proofs.Common.{◌≡◌, ◌∙◌, false, refl, ap, ap₂}
use Rattle.std.proofs.lemmas.Result.{IfOk-weaker}
use Rattle.clap.specs.Words.{app_of, with_rule}
use Rattle.clap.specs.declared.builder.command.Command.TheViews.{out-Command}
use Rattle.rtps_tool.proofs.demands.with_rows.Goals as goal

pub returns : goal.returns
returns c =
    let pattern = c.pattern_option.ensures in
    let node = c.node_option.ensures in
    let expect = c.expect_option.ensures in
    let one_is = c.in_ok-one.ensures.shape pattern.local ∙ ap (with_rule (app_of c.args.command)) pattern.rule in
    let one_local : (out-Command c.in_ok-one.one).has_globals ≡ false = rw (c.in_ok-one.ensures.globals, c.requires, pattern.local) refl in
    let two_is = c.in_ok-two.ensures.shape node.local ∙ ap₂ with_rule one_is node.rule in
    let two_local : (out-Command c.in_ok-two.two).has_globals ≡ false = rw (c.in_ok-two.ensures.globals, one_local, node.local) refl in
    record {
      app = IfOk-weaker c.arg-3.result _ _ (λ command added. added.shape expect.local ∙ ap₂ with_rule two_is expect.rule) c.arg-3.ensures;
      local = IfOk-weaker c.arg-3.result _ _ (λ command added. rw (added.globals, two_local, expect.local) refl) c.arg-3.ensures;
    }
