use Rattle.std.proofs.Common.{◌≡◌, ◌∙◌, All, refl, subst, sym}
use Rattle.std.specs.BTreeMap.{get}
use Rattle.std.specs.Ordering.{nat_cmp}
use Rattle.rtps_coverage.specs.declared.stretch.Stretch.{Stretch}
use Rattle.rtps_evidence.specs.Kinds as kinds
use Rattle.rtps_evidence.proofs.SendingLemmas.{range_is, ranges_more}
use Rattle.rtps_evidence.proofs.kinds.KindNumbers.of.Goals as goal

pub loop-run-preserved : goal.loop-run-preserved
loop-run-preserved c = λ pair acts known.
    let none : Stretch = record { lo = 0; hi = 0 } in
    let kept = c.first_of-kept.result.now in
    let sent = subst (All (λ (run : Stretch). get nat_cmp c.args.sendings.now.places run.lo ≡ kinds.first_brought pair acts run.lo)) (sym c.first_of-kept.ensures) known in
    ranges_more (kinds.range_of pair acts) kept c.loop-run.run-index none c.loop-run.ranges.items c.push.new.self.items _ c.loop-run-test.true c.in_ok-push.ensures.items
    (range_is _ _ refl c.saturating_sub.ensures (c.place_of.ensures ∙ sent c.loop-run.run-index none c.loop-run-test.true)) (c.loop-run.invariant pair acts known)
