use Rattle.std.proofs.Common.{◌∙◌, ap, ap₂}
use Rattle.std.proofs.lemmas.Result.{IfOk-weaker}
use Rattle.clap.specs.Words.{App, with_subcommand}
use Rattle.rtps_tool.proofs.command.subcommands.program.Goals as goal

pub returns : goal.returns
returns c =
    let check_is = ap (λ (a : App). a.top) c.in_ok-check.ensures.app in
    let show_is = ap (λ (a : App). a.top) c.in_ok-show.ensures.app in
    let list_is = ap (λ (a : App). a.top) c.in_ok-list.ensures.app in
    let audit_is = ap (λ (a : App). a.top) c.in_ok-audit.ensures.app in
    let why_is = ap (λ (a : App). a.top) c.in_ok-why.ensures.app in
    let sample_is = ap (λ (a : App). a.top) c.plain_subcommand.ensures.app in
    let zero_is = c.in_ok-zero.ensures.shape c.in_ok-check.ensures.local ∙ ap₂ with_subcommand c.bare_program.ensures check_is in
    let one_is = c.in_ok-one.ensures.shape c.in_ok-show.ensures.local ∙ ap₂ with_subcommand zero_is show_is in
    let two_is = c.in_ok-two.ensures.shape c.in_ok-list.ensures.local ∙ ap₂ with_subcommand one_is list_is in
    let three_is = c.in_ok-three.ensures.shape c.in_ok-audit.ensures.local ∙ ap₂ with_subcommand two_is audit_is in
    let four_is = c.in_ok-four.ensures.shape c.in_ok-why.ensures.local ∙ ap₂ with_subcommand three_is why_is in
    let page_is = ap (λ (a : App). a.top) c.in_ok-page.ensures.app in
    let five_is = c.in_ok-five.ensures.shape c.in_ok-page.ensures.local ∙ ap₂ with_subcommand four_is page_is in
    IfOk-weaker c.subcommand-7.result _ _ (λ command added. added.shape c.plain_subcommand.ensures.local ∙ ap₂ with_subcommand five_is sample_is) c.subcommand-7.ensures
