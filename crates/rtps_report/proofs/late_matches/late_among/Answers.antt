use Rattle.std.specs.BTreeMap.{get}
use Rattle.rtps_discovery.specs.Listings as listings
use Rattle.rtps_report.proofs.LateLemmas.{late_more}
use Rattle.rtps_report.proofs.late_matches.late_among.Goals as goal

pub loop-pair-preserved : goal.loop-pair-preserved
loop-pair-preserved c = λ acts are pair.
    late_more acts c.args.lives.now c.args.pairs.now c.loop-pair.pair-index _ pair c.late_of.result (get listings.pair_cmp c.loop-pair.late pair) (get listings.pair_cmp c.keep_late.new.late pair) c.loop-pair-test.true
    (c.in_ok-keep_late.ensures pair) (c.late_of.ensures acts are) (c.loop-pair.invariant acts are pair)
