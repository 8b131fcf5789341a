use Rattle.std.proofs.Common.{arith}
use Rattle.rtps_wire.proofs.datagram_tally.tally.Goals as goal

pub tally_items-requires : goal.tally_items-requires
tally_items-requires c = omega (arith, c.in-Ok.ensures.1)
