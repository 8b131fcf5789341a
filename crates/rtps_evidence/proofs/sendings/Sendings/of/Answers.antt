use Rattle.std.proofs.Common.{map, subst, sym, take}
use Rattle.rtps_audit.specs.Placed as placed
use Rattle.rtps_coverage.specs.Stretches as stretches
use Rattle.rtps_evidence.specs.Kinds as kinds
use Rattle.rtps_evidence.specs.Runs as runs
use Rattle.rtps_evidence.proofs.RequestLemmas.{taken_more}
use Rattle.rtps_evidence.proofs.sendings.Sendings.of.Goals as goal

pub loop-placed-preserved : goal.loop-placed-preserved
loop-placed-preserved c =
    let acts = c.args.acts.now in
    let i = c.loop-placed.placed-index in
    subst (λ l. runs.AreSendings (stretches.stretches_have c.args.numbers.now) (kinds.first_brought c.args.pair l) c.note.new.self)
    (sym (taken_more acts i c.placed-item.result c.loop-placed-test.true c.placed-item.is)) (c.in_ok-note.ensures (map placed.placed_value (take i acts)) c.loop-placed.invariant)
