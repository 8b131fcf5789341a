use Rattle.std.proofs.Common.{◌∙◌, List, ap, map, sym, take}
use Rattle.std.specs.Option.{option_map}
use Rattle.rtps_audit.specs.Placed as placed
use Rattle.rtps_evidence.specs.Locations as locations
use Rattle.rtps_evidence.specs.Missed as missed
use Rattle.rtps_evidence.proofs.RequestLemmas.{taken_more}
use Rattle.rtps_evidence.proofs.first_missed.last_asking.Goals as goal

pub loop-placed-preserved : goal.loop-placed-preserved
loop-placed-preserved c =
    let acts = c.args.acts.now in
    let i = c.loop-placed.placed-index in
    c.asking_with-last.ensures (map placed.placed_value (take i acts)) c.loop-placed.invariant
    ∙ ap (λ (own : List placed.PlacedValue). option_map locations.location_of (locations.find_last (missed.asks_for c.args.pair.writer c.args.pair.reader c.args.number) own)) (sym (taken_more acts i c.placed-item.result c.loop-placed-test.true c.placed-item.is))
