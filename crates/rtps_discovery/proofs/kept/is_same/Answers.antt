use Rattle.rtps_discovery.proofs.Same.{same_decides}
use Rattle.rtps_discovery.proofs.kept.is_same.Goals as goal

pub returns : goal.returns
returns c = rw c.eq.ensures (same_decides c.args.one.now c.args.other.now)
