use Rattle.std.proofs.Common.{◌∙◌, ◌≤◌, sym, subst, length, rules}
use Rattle.std.proofs.lemmas.Bool.{false≢true}
use Rattle.rtps_coverage.specs.Leaves as leaves_spec
use Rattle.rtps_coverage.proofs.RangesLemmas.{clear_has, touching_fewer}
use Rattle.rtps_coverage.proofs.leaves.join_leaves.Goals as goal

pub returns-in_err-join_at-clause-touching : goal.returns-in_err-join_at-clause-touching
returns-in_err-join_at-clause-touching c = λ n there from to.
    absurd (false≢true (sym (clear_has (leaves_spec.ranges_in c.args.leaves.now.items) c.args.lo c.args.hi n c.in_err-join_at.ensures.clear from to) ∙ there))

pub returns-then-len-ge-MOST_RANGES-clause-touching : goal.returns-then-len-ge-MOST_RANGES-clause-touching
returns-then-len-ge-MOST_RANGES-clause-touching c = λ n there from to.
    let fewer = touching_fewer (leaves_spec.ranges_in c.args.leaves.now.items) (leaves_spec.ranges_in c.join_at.new.leaves.items) c.args.lo c.args.hi n c.in_ok-join_at.ensures.counts there from to in
    (search rules, subst (λ l. length l ≤ length (leaves_spec.ranges_in c.args.leaves.now.items)) (sym c.halve.ensures.same) fewer)

pub returns-else-len-ge-MOST_RANGES-clause-touching : goal.returns-else-len-ge-MOST_RANGES-clause-touching
returns-else-len-ge-MOST_RANGES-clause-touching c = λ n there from to.
    (search rules, touching_fewer (leaves_spec.ranges_in c.args.leaves.now.items) (leaves_spec.ranges_in c.join_at.new.leaves.items) c.args.lo c.args.hi n c.in_ok-join_at.ensures.counts there from to)
