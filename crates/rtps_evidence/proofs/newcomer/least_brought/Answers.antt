use Rattle.std.proofs.Common.{ℕ}
use Rattle.rtps_audit.specs.Placed as placed
use Rattle.rtps_evidence.specs.Missed as missed
use Rattle.rtps_evidence.proofs.SpanLemmas.{least_more, lesser_below}
use Rattle.rtps_evidence.proofs.newcomer.least_brought.Goals as goal

pub loop-placed-preserved : goal.loop-placed-preserved
loop-placed-preserved c =
    let listener = c.args.listener.now in
    let test : ℕ → placed.PlacedValue → _ = missed.brings_behind listener.since listener.pair.writer listener.pair.reader in
    record {
      least = least_more placed.placed_value test c.args.acts.now c.loop-placed.placed-index c.placed-item.result c.args.lo c.loop-placed.least c.brought_from.result c.lesser-least.result c.loop-placed-test.true c.placed-item.is c.loop-placed.invariant.least c.brought_from.ensures.least c.lesser-least.ensures;
      in_range = lesser_below c.loop-placed.least c.brought_from.result c.lesser-least.result c.loop-placed.invariant.in_range c.brought_from.ensures.in_range c.lesser-least.ensures;
    }
