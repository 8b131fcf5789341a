use Rattle.std.proofs.Common.{◌≡◌, ◌∙◌, Some, false, true, refl, ap, ap₂}
use Rattle.std.proofs.lemmas.Result.{IfOk-weaker}
use Rattle.clap.specs.Words.{Rule, rule_of, with_rule}
use Rattle.clap.specs.Simple.{app_of_fields}
use Rattle.clap.specs.declared.builder.action.ArgAction.TheVariants.{Set}
use Rattle.clap.specs.declared.builder.command.Command.TheViews.{out-Command}
use Rattle.rtps_tool.specs.Words as words
use Rattle.rtps_tool.proofs.command.subcommands.limited_subcommand.Goals as goal

pub returns : goal.returns
returns c =
    let file_is : rule_of c.help-file.result ≡ words.file_rule =
    ap rule_of c.help-file.ensures ∙ ap rule_of c.action.ensures
    ∙ ap (λ (r : Rule). record r { action = Some Set }) (ap rule_of c.required.ensures)
    ∙ ap (λ (r : Rule). record r { action = Some Set; required = true }) c.new.ensures.rule in
    let not_global : c.help-file.result.global ≡ false =
    ap (λ a. a.global) c.help-file.ensures ∙ ap (λ a. a.global) c.action.ensures ∙ ap (λ a. a.global) c.required.ensures ∙ c.new.ensures.optional.1 in
    let bare_is = ap app_of_fields c.after_help-bare.ensures ∙ ap app_of_fields c.about.ensures ∙ c.new-2.ensures.app in
    let bare_local = ap (λ f. f.has_globals) c.after_help-bare.ensures ∙ ap (λ f. f.has_globals) c.about.ensures ∙ c.new-2.ensures.local in
    let one_is = c.in_ok-one.ensures.shape not_global ∙ ap₂ with_rule bare_is file_is in
    let one_local : (out-Command c.in_ok-one.one).has_globals ≡ false = rw (c.in_ok-one.ensures.globals, bare_local, not_global) refl in
    let datagrams = c.number_option-datagrams.ensures in
    let two_is = c.in_ok-two.ensures.shape datagrams.local ∙ ap₂ with_rule one_is datagrams.rule in
    let two_local : (out-Command c.in_ok-two.two).has_globals ≡ false = rw (c.in_ok-two.ensures.globals, one_local, datagrams.local) refl in
    let octets = c.number_option.ensures in
    record {
      app = IfOk-weaker c.arg-3.result _ _ (λ command added. added.shape octets.local ∙ ap₂ with_rule two_is octets.rule) c.arg-3.ensures;
      local = IfOk-weaker c.arg-3.result _ _ (λ command added. rw (added.globals, two_local, octets.local) refl) c.arg-3.ensures;
    }
