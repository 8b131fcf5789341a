use Rattle.rtps_discovery.proofs.MapLaws as those
use Rattle.rtps_discovery.proofs.laws.any_order.Goals as goal

pub returns : goal.returns
returns c = record { permutation = those.any_order; again = those.again }
