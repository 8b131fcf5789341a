use Rattle.std.proofs.Common.{◌∙◌}
use Rattle.rtps_audit.proofs.index.Index.answers_of.Goals as goal

pub returns : goal.returns
returns c = λ intake is. c.of.ensures ∙ is.answers c.args.pair
