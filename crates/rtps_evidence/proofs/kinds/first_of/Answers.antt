use Rattle.std.proofs.Common.{◌∙◌, ap, take}
use Rattle.std.proofs.lemmas.List.{take_min}
use Rattle.rtps_evidence.proofs.kinds.first_of.Goals as goal

pub returns : goal.returns
returns c = ap (λ k. take k c.args.runs.now) c.min-count.ensures ∙ take_min 1000 c.args.runs.now
