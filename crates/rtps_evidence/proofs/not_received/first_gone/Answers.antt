use Rattle.std.proofs.Common.{◌∙◌, ◌+◌, ap, map, sym, take}
use Rattle.rtps_audit.specs.Placed as placed
use Rattle.rtps_evidence.specs.Locations as locations
use Rattle.rtps_evidence.specs.Received as received
use Rattle.rtps_evidence.proofs.FindLemmas.{first_settled}
use Rattle.rtps_evidence.proofs.RequestLemmas.{taken_more}
use Rattle.rtps_evidence.proofs.not_received.first_gone.Goals as goal

pub loop-placed-preserved : goal.loop-placed-preserved
loop-placed-preserved c =
    let acts = c.args.acts.now in
    let i = c.loop-placed.placed-index in
    c.gone_with-found.ensures (map placed.placed_value (take i acts)) c.loop-placed.invariant ∙ ap (received.gone_before c.args.pair.writer c.args.pair.reader c.args.claimed.number c.args.claimed.datagram) (sym (taken_more acts i c.placed-item.result c.loop-placed-test.true c.placed-item.is))

pub returns-then-is_some : goal.returns-then-is_some
returns-then-is_some c =
    let acts = c.args.acts.now in
    let i = c.loop-placed.placed-index in
    first_settled (locations.teller_at) placed.placed_value (received.withdraws_before c.args.pair.writer c.args.pair.reader c.args.claimed.number c.args.claimed.datagram) acts (i + 1) c.gone_with-found.result (sym c.is_some.ensures ∙ c.if-is_some.true)
    (c.gone_with-found.ensures (map placed.placed_value (take i acts)) c.loop-placed.invariant ∙ ap (received.gone_before c.args.pair.writer c.args.pair.reader c.args.claimed.number c.args.claimed.datagram) (sym (taken_more acts i c.placed-item.result c.loop-placed-test.true c.placed-item.is)))
