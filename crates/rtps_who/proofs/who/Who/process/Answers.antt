use Rattle.std.proofs.Common.{◌∙◌, ap}
use Rattle.rtps_who.specs.Introducing as introducing
use Rattle.rtps_who.proofs.Offered.{process_is}
use Rattle.rtps_who.proofs.who.Who.process.Goals as goal

pub returns-clause-kept : goal.returns-clause-kept
returns-clause-kept c = c.process.ensures ∙ ap (introducing.process_kept c.args.self.now.introductions) c.participant_of.ensures

pub returns-clause-told : goal.returns-clause-told
returns-clause-told c = λ recorded is.
    c.process.ensures ∙ ap (introducing.process_kept c.args.self.now.introductions) c.participant_of.ensures ∙ process_is recorded c.args.self.now is c.args.prefix
