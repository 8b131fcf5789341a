use Rattle.std.proofs.Common.{◌≡◌, ◌∙◌, false, refl, ap, ap₂}
use Rattle.std.proofs.lemmas.Result.{IfOk-weaker}
use Rattle.clap.specs.Words.{app_of, with_rule}
use Rattle.clap.specs.declared.builder.command.Command.TheViews.{out-Command}
use Rattle.rtps_tool.proofs.demands.with_standard.Goals as goal

pub returns : goal.returns
returns c =
    let tail = c.tail_option.ensures in
    let certain = c.flag.ensures in
    let one_is = c.in_ok-one.ensures.shape tail.local ∙ ap (with_rule (app_of c.args.command)) tail.rule in
    let one_local : (out-Command c.in_ok-one.one).has_globals ≡ false = rw (c.in_ok-one.ensures.globals, c.requires, tail.local) refl in
    record {
      app = IfOk-weaker c.arg-2.result _ _ (λ command added. added.shape certain.local ∙ ap₂ with_rule one_is certain.rule) c.arg-2.ensures;
      local = IfOk-weaker c.arg-2.result _ _ (λ command added. rw (added.globals, one_local, certain.local) refl) c.arg-2.ensures;
    }
