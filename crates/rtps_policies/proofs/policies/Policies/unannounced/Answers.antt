use Rattle.std.proofs.Common.{ap}
use Rattle.rtps_policies.specs.Policies as policies
use Rattle.rtps_policies.proofs.TextLemmas.{unnamed}
use Rattle.rtps_policies.proofs.policies.Policies.unannounced.Goals as goal

pub returns : goal.returns
returns c = ap (λ names. record policies.unannounced { partition = names }) unnamed
