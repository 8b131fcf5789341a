use Rattle.std.proofs.Common.{◌∙◌, ap, sym, subst, rules}
use Rattle.std.specs.List.Sorted.{IsNonDecreasingBy}
use Rattle.std.proofs.lemmas.List.Sorted.{IsNonDecreasingBy-from_sort_by_key, list_any-IsPermutation}
use Rattle.rtps_coverage.specs.Stretches as stretches
use Rattle.rtps_coverage.specs.declared.stretch.Stretch.{Stretch}
use Rattle.rtps_coverage.proofs.CountLemmas.{count_same}
use Rattle.rtps_coverage.proofs.stretches.count_of.Goals as goal

pub count_in_order-requires-clause-sorted : goal.count_in_order-requires-clause-sorted
count_in_order-requires-clause-sorted c =
    let sorted = IsNonDecreasingBy-from_sort_by_key (λ (s : Stretch). s.lo) _ c.in_ok-sort_by_key.ensures.sorted (λ a r q k. search rules) in
    subst (IsNonDecreasingBy (λ (s : Stretch). s.lo)) (sym c.deref.ensures.value) sorted

pub returns-clause-count : goal.returns-clause-count
returns-clause-count c =
    c.count_in_order.ensures
    ∙ count_same (stretches.stretches_have c.deref.result.now) (stretches.stretches_have c.args.stretches.now.items) c.args.from c.args.end (λ n a b.
    ap (λ l. stretches.stretches_have l n) c.deref.ensures.value ∙ sym (list_any-IsPermutation (stretches.stretch_has n) c.args.stretches.now.items c.sort_by_key.new.self.items c.in_ok-sort_by_key.ensures.permutation))

pub returns-clause-same : goal.returns-clause-same
returns-clause-same c = λ n. sym (list_any-IsPermutation (stretches.stretch_has n) c.args.stretches.now.items c.sort_by_key.new.self.items c.in_ok-sort_by_key.ensures.permutation)
