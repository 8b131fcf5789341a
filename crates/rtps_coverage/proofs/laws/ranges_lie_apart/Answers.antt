use Rattle.rtps_coverage.proofs.LawLemmas.{ranges_lie_apart}
use Rattle.rtps_coverage.proofs.laws.ranges_lie_apart.Goals as goal

pub returns : goal.returns
returns c = ranges_lie_apart
