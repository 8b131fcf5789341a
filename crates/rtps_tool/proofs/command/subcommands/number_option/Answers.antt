use Rattle.std.proofs.Common.{◌≡◌, ◌∙◌, ◌-◌, ◌^◌, Some, ap}
use Rattle.clap.specs.Words.{Rule, rule_of}
use Rattle.clap.specs.declared.builder.action.ArgAction.TheVariants.{Set}
use Rattle.clap.specs.declared.builder.value_parser.ValueParser.TheVariants.{Unsigned}
use Rattle.rtps_tool.proofs.command.subcommands.number_option.Goals as goal

pub returns : goal.returns
returns c =
    let given = c.value_parser.ensures.given in
    let parser_is : c.value_parser.result.value_parser ≡ Some (Unsigned 1 (2 ^ 63 - 1)) = given.1 ∙ ap Some (given.2 ∙ c.unsigned.ensures) in
    record {
      rule = ap rule_of c.help.ensures ∙ ap rule_of c.value_parser.ensures.others
          ∙ ap (λ p. record (rule_of c.action.result) { parser = p }) parser_is
          ∙ ap (λ (r : Rule). record r { parser = Some (Unsigned 1 (2 ^ 63 - 1)) }) (ap rule_of c.action.ensures)
          ∙ ap (λ (r : Rule). record r { action = Some Set; parser = Some (Unsigned 1 (2 ^ 63 - 1)) }) (ap rule_of c.long.ensures)
          ∙ ap (λ (r : Rule). record r { long = Some c.args.name.now; action = Some Set; parser = Some (Unsigned 1 (2 ^ 63 - 1)) }) c.new.ensures.rule;
      local = ap (λ a. a.global) c.help.ensures ∙ ap (λ a. a.global) c.value_parser.ensures.others ∙ ap (λ a. a.global) c.action.ensures ∙ ap (λ a. a.global) c.long.ensures ∙ c.new.ensures.optional.1;
    }
