use Rattle.std.proofs.lemmas.Grind.{common_steps}
use Rattle.std.proofs.lemmas.Bool.Decides.{nat_tests}
use Rattle.std.proofs.Common.{arith, rules, subst, sym}
use Rattle.std.specs.List.Sorted.{IsNonDecreasingBy}
use Rattle.std.proofs.lemmas.Int.{ints}
use Rattle.std.proofs.lemmas.List.Sorted.{IsNonDecreasingBy-from_sort_by_key, list_any-IsPermutation}
use Rattle.rtps_coverage.specs.declared.stretch.Stretch.{Stretch}
use Rattle.rtps_evidence.proofs.lacking.others_of.Goals as goal

pub outside-requires : goal.outside-requires
outside-requires c =
    let sorted = IsNonDecreasingBy-from_sort_by_key (λ (s : Stretch). s.lo) _ c.in_ok-sort_by_key.ensures.sorted (λ a r q k. search rules) in
    subst (IsNonDecreasingBy (λ (s : Stretch). s.lo)) (sym c.deref.ensures.value) sorted

pub returns : goal.returns
returns c = grind (arith, nat_tests, common_steps, ints, list_any-IsPermutation)
