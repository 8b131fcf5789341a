use Rattle.std.proofs.Common.{◌∙◌, ap₂}
use Rattle.rtps_who.specs.Naming as naming
use Rattle.rtps_who.proofs.who.Who.participant_title.Goals as goal

pub returns : goal.returns
returns c = λ recorded is. c.title_by.ensures ∙ ap₂ naming.title_by (c.only_node.ensures.told recorded is) (c.process.ensures.told recorded is)
