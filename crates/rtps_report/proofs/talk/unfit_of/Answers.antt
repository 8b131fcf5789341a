use Rattle.std.proofs.Common.{◌∙◌, ap, cond, is_eq, true}
use Rattle.std.specs.BTreeSet.{contains}
use Rattle.rtps_discovery.specs.Listings as listings
use Rattle.rtps_discovery.specs.declared.matching.Pair.{Pair}
use Rattle.rtps_report.proofs.TalkLemmas.{unfit_more}
use Rattle.rtps_report.proofs.talk.unfit_of.Goals as goal

pub loop-one-preserved : goal.loop-one-preserved
loop-one-preserved c = λ pair.
    let known = contains listings.pair_cmp c.loop-one.unfit pair in
    let added = c.in_ok-insert.ensures.updates.0 pair ∙ ap (λ (one : Pair). cond (is_eq (listings.pair_cmp one pair)) true known) c.pair_of.ensures in
    unfit_more c.args.unmatched.now c.loop-one.one-index c.one-item.result pair known _ c.loop-one-test.true c.one-item.is added (c.loop-one.invariant pair)
