use Rattle.std.proofs.Common.{◌∙◌, List, ap, map, sym, take}
use Rattle.rtps_audit.specs.Delivery as delivery
use Rattle.rtps_audit.specs.Placed as placed
use Rattle.rtps_evidence.specs.Recorded as recorded
use Rattle.rtps_evidence.proofs.RequestLemmas.{taken_more}
use Rattle.rtps_evidence.proofs.recorded.greatest_sent.Goals as goal

pub loop-placed-preserved : goal.loop-placed-preserved
loop-placed-preserved c =
    let acts = c.args.acts.now in
    let i = c.loop-placed.placed-index in
    record {
      value = c.greatest_with-greatest.ensures.value (map placed.placed_value (take i acts)) c.loop-placed.invariant.value
          ∙ ap (λ (own : List placed.PlacedValue). delivery.greatest (map (recorded.number_sent c.args.writer) own)) (sym (taken_more acts i c.placed-item.result c.loop-placed-test.true c.placed-item.is));
      in_range = c.greatest_with-greatest.ensures.in_range c.loop-placed.invariant.in_range;
    }
