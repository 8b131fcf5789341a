use Rattle.std.proofs.Common.{◌≡◌, ◌∙◌, codes, false, true, sym}
use Rattle.clap.specs.Words.{subcommand_name_of}
use Rattle.rtps_tool.specs.Words as words
use Rattle.rtps_tool.proofs.WordsLemmas.{name_found, none_chosen, unfound}
use Rattle.rtps_tool.proofs.command.chosen.choice_of.Goals as goal

pub returns : goal.returns
returns c = λ chosen is.
    let found = subcommand_name_of c.args.matches.now in
    none_chosen found chosen
    (unfound c.subcommand_matches.result found (codes "check") c.in_default.is c.subcommand_matches.ensures.found.1)
    (unfound c.subcommand_matches-2.result found (codes "show") (c.in_default-subcommand_matches).is c.subcommand_matches-2.ensures.found.1)
    (unfound c.subcommand_matches-3.result found (codes "list") (c.in_default-subcommand_matches-2).is c.subcommand_matches-3.ensures.found.1)
    (unfound c.subcommand_matches-4.result found (codes "audit") (c.in_default-subcommand_matches-3).is c.subcommand_matches-4.ensures.found.1)
    (unfound c.subcommand_matches-5.result found (codes "why") (c.in_default-subcommand_matches-4).is c.subcommand_matches-5.ensures.found.1)
    (unfound c.subcommand_matches-6.result found (codes "page") (c.in_default-subcommand_matches-5).is c.subcommand_matches-6.ensures.found.1)
    (λ sample.
    let e : false ≡ true = sym c.if-is_some.false ∙ c.is_some.ensures ∙ c.subcommand_matches-7.ensures.found.1 sample in
    cc)
    (name_found _ _ _ (words.subcommand_name chosen, is.0) is.1)
