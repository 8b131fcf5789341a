use Rattle.std.proofs.Common.{◌∙◌, true, ap}
use Rattle.clap.specs.Simple.{app_of_fields, on_top}
use Rattle.rtps_tool.proofs.command.subcommands.bare_program.Goals as goal

pub returns : goal.returns
returns c =
    let about_is = ap app_of_fields c.after_help.ensures ∙ ap app_of_fields c.about.ensures ∙ c.new.ensures.app in
    let version_is = ap app_of_fields c.version.ensures ∙ ap (on_top (λ s. record s { has_version = true })) about_is in
    ap app_of_fields c.subcommand_required.ensures ∙ ap (on_top (λ s. record s { subcommand_required = true })) version_is
