use Rattle.std.proofs.Common.{◌∙◌, List, ap, map, sym, take}
use Rattle.rtps_audit.specs.Placed as placed
use Rattle.rtps_evidence.specs.Amount as amount
use Rattle.rtps_evidence.proofs.RequestLemmas.{taken_more}
use Rattle.rtps_evidence.proofs.recorded.sent_among.Goals as goal

pub loop-placed-preserved : goal.loop-placed-preserved
loop-placed-preserved c = λ n.
    let acts = c.args.acts.now in
    let i = c.loop-placed.placed-index in
    c.in_ok-note_sent.ensures (map placed.placed_value (take i acts)) n (c.loop-placed.invariant n)
    ∙ ap (λ (own : List placed.PlacedValue). amount.is_sent c.args.pair.writer c.args.pair.reader own n) (sym (taken_more acts i c.placed-item.result c.loop-placed-test.true c.placed-item.is))
