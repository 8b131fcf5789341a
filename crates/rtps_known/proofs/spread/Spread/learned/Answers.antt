use Rattle.std.proofs.Common.{◌∙◌, ap₂}
use Rattle.std.specs.Option.{option_or}
use Rattle.rtps_known.proofs.SpreadLemmas.{learned_kept}
use Rattle.rtps_known.proofs.spread.Spread.learned.Goals as goal

pub returns : goal.returns
returns c = λ writer acts were. c.or.ensures ∙ ap₂ option_or c.again_of.ensures c.first_sent.ensures ∙ learned_kept writer acts c.args.self.now c.args.prefix c.args.number were
