use Rattle.std.proofs.Common.{◌≡◌, ◌≤◌, ◌∙◌, [], arith, refl, subst, sym}
use Rattle.std.specs.List.Sorted.{IsStrictlySortedBy}
use Rattle.std.proofs.lemmas.Int.{ints}
use Rattle.rtps_discovery.specs.Listings.{pair_cmp}
use Rattle.rtps_passes.specs.Judging as judging
use Rattle.rtps_passes.proofs.judging.Judging.of.Goals as goal

pub returns : goal.returns
returns c = λ acts is.
    let pairs = judging.pairs_in c.args.directory.now in
    let are : c.deref.result.now ≡ pairs = c.deref.ensures.value ∙ c.in_ok-pairs.ensures in
    let sorted = subst (IsStrictlySortedBy pair_cmp) (sym are) (c.in_order.ensures.pairs acts c.args.directory.now is) in
    let positive : 1 ≤ c.of.result = let some = c.of.type_inv in omega (arith, ints) in
    record {
      positive = subst (λ n. 1 ≤ n) c.of.ensures positive;
      counted = refl;
      taken = subst (λ from. judging.HaveTakenIn from 0 pairs [] [] c.in_ok-writers.writers.items) c.of.ensures (subst (λ l. judging.HaveTakenIn c.of.result 0 l [] [] c.in_ok-writers.writers.items) are (c.in_ok-writers.ensures sorted));
    }
