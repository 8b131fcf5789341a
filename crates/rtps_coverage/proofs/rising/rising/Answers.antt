use Rattle.std.proofs.Common.{◌∙◌, ap, sym, subst, rules}
use Rattle.std.specs.List.Sorted.{IsNonDecreasingBy}
use Rattle.std.proofs.lemmas.List.Sorted.{IsNonDecreasingBy-from_sort_by_key, list_any-IsPermutation}
use Rattle.rtps_coverage.specs.Rising as rising
use Rattle.rtps_coverage.specs.declared.stretch.Stretch.{Stretch}
use Rattle.rtps_coverage.proofs.rising.rising.Goals as goal

pub rise-requires : goal.rise-requires
rise-requires c =
    let sorted = IsNonDecreasingBy-from_sort_by_key (λ (s : Stretch). s.lo) _ c.in_ok-sort_by_key.ensures.sorted (λ a r q k. search rules) in
    subst (IsNonDecreasingBy (λ (s : Stretch). s.lo)) (sym c.deref.ensures.value) sorted

pub returns-clause-same : goal.returns-clause-same
returns-clause-same c = λ key n.
    c.in_ok-rising.ensures.same key n
    ∙ ap (λ l. rising.some_reaches l key n) c.deref.ensures.value
    ∙ sym (list_any-IsPermutation (rising.reaches key n) c.args.stretches.now.items c.sort_by_key.new.self.items c.in_ok-sort_by_key.ensures.permutation)
