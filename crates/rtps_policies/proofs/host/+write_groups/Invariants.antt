use Rattle.std.proofs.Common.{length}
use Rattle.rtps_policies.proofs.host.+write_groups.Given as goal

abbrev pub decreases-write_groups : goal.decreases-write_groups
decreases-write_groups g l = length l.octets.now
