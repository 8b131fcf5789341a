use Rattle.std.proofs.Common.{◌∙◌, ◌+◌, ap, map, sym, take}
use Rattle.rtps_audit.specs.Placed as placed
use Rattle.rtps_evidence.specs.Locations as locations
use Rattle.rtps_evidence.proofs.FindLemmas.{first_settled}
use Rattle.rtps_evidence.proofs.RequestLemmas.{taken_more}
use Rattle.rtps_evidence.proofs.teller.find_teller.Goals as goal

pub loop-placed-preserved : goal.loop-placed-preserved
loop-placed-preserved c =
    let acts = c.args.acts.now in
    let i = c.loop-placed.placed-index in
    c.teller_with-found.ensures (map placed.placed_value (take i acts)) c.loop-placed.invariant ∙ ap (locations.teller_of c.args.pair.writer c.args.pair.reader c.args.number) (sym (taken_more acts i c.placed-item.result c.loop-placed-test.true c.placed-item.is))

pub returns-then-is_some : goal.returns-then-is_some
returns-then-is_some c =
    let acts = c.args.acts.now in
    let i = c.loop-placed.placed-index in
    first_settled (locations.teller_at) placed.placed_value (locations.tells c.args.pair.writer c.args.pair.reader c.args.number) acts (i + 1) c.teller_with-found.result (sym c.is_some.ensures ∙ c.if-is_some.true)
    (c.teller_with-found.ensures (map placed.placed_value (take i acts)) c.loop-placed.invariant ∙ ap (locations.teller_of c.args.pair.writer c.args.pair.reader c.args.number) (sym (taken_more acts i c.placed-item.result c.loop-placed-test.true c.placed-item.is)))
