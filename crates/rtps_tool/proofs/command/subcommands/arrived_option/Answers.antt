use Rattle.std.proofs.Common.{◌∙◌, Some, ap, codes}
use Rattle.clap.specs.Words.{Rule, rule_of}
use Rattle.clap.specs.declared.builder.action.ArgAction.TheVariants.{Set}
use Rattle.rtps_tool.proofs.command.subcommands.arrived_option.Goals as goal

pub returns : goal.returns
returns c =
    record {
      rule = ap rule_of c.help.ensures ∙ ap rule_of c.action.ensures
          ∙ ap (λ (r : Rule). record r { action = Some Set }) (ap rule_of c.long.ensures)
          ∙ ap (λ (r : Rule). record r { long = Some (codes "arrived"); action = Some Set }) c.new.ensures.rule;
      local = ap (λ a. a.global) c.help.ensures ∙ ap (λ a. a.global) c.action.ensures ∙ ap (λ a. a.global) c.long.ensures ∙ c.new.ensures.optional.1;
    }
