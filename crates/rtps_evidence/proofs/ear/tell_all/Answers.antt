use Rattle.std.proofs.Common.{List, map, subst, sym, take}
use Rattle.rtps_audit.specs.Placed as placed
use Rattle.rtps_evidence.specs.Ears as ears
use Rattle.rtps_evidence.proofs.RequestLemmas.{taken_more}
use Rattle.rtps_evidence.proofs.ear.tell_all.Goals as goal

pub loop-placed-preserved : goal.loop-placed-preserved
loop-placed-preserved g c =
    let acts = c.args.acts.now in
    let i = c.loop-placed.placed-index in
    subst (λ (l : List placed.PlacedValue). ears.HaveHeard g.E.Ear.has_heard c.args.ears.now l c.tell.new.ears) (sym (taken_more acts i c.placed-item.result c.loop-placed-test.true c.placed-item.is))
    (c.in_ok-tell.ensures c.args.ears.now (map placed.placed_value (take i acts)) c.loop-placed.invariant)
