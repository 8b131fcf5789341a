use Rattle.std.proofs.Common.{arith}
use Rattle.rtps_who.specs.Samples as samples
use Rattle.rtps_who.proofs.ItemLemmas.{rest_more}
use Rattle.rtps_who.proofs.gids.behind_gids.Goals as goal

pub loop-preserved : goal.loop-preserved
loop-preserved c =
    rest_more (samples.front_gid c.args.width) c.args.count c.loop.counter c.args.octets.now c.loop.rest.now (c.in_ok-behind.field-0-0, c.in_ok-behind.behind.now) (omega arith) c.in_ok-behind.ensures c.loop.invariant
