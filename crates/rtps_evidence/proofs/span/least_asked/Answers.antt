use Rattle.std.proofs.Common.{List, map, subst, sym, take}
use Rattle.std.specs.List.{list_any}
use Rattle.rtps_audit.specs.Placed as placed
use Rattle.rtps_evidence.specs.Missed as missed
use Rattle.rtps_evidence.specs.Spans as spans
use Rattle.rtps_evidence.proofs.RequestLemmas.{taken_more}
use Rattle.rtps_evidence.proofs.span.least_asked.Goals as goal

pub loop-placed-preserved : goal.loop-placed-preserved
loop-placed-preserved c =
    let pair = c.args.pair in
    let acts = c.args.acts.now in
    let i = c.loop-placed.placed-index in
    record {
      least = subst (λ (l : List placed.PlacedValue). spans.IsLeastFrom (λ n. list_any (missed.asks_for pair.writer pair.reader n) l) c.args.lo c.asked_with-least.result) (sym (taken_more acts i c.placed-item.result c.loop-placed-test.true c.placed-item.is))
          (c.asked_with-least.ensures.least (map placed.placed_value (take i acts)) c.loop-placed.invariant.least);
      in_range = c.asked_with-least.ensures.in_range c.loop-placed.invariant.in_range;
    }
