use Rattle.std.proofs.Common.{◌∙◌, ◌+◌, ap, subst, sym, rules}
use Rattle.std.specs.List.Sorted.{IsNonDecreasingBy}
use Rattle.std.proofs.lemmas.List.Sorted.{IsNonDecreasingBy-from_sort_by_key, list_any-IsPermutation}
use Rattle.rtps_coverage.specs.Stretches as stretches
use Rattle.rtps_coverage.specs.declared.stretch.Stretch.{Stretch}
use Rattle.rtps_evidence.proofs.KindLemmas.{runs_moved}
use Rattle.rtps_evidence.proofs.runs.runs_of.Goals as goal

pub runs_in_order-requires : goal.runs_in_order-requires
runs_in_order-requires c =
    let sorted = IsNonDecreasingBy-from_sort_by_key (λ (s : Stretch). s.lo) _ c.in_ok-sort_by_key.ensures.sorted (λ a r q k. search rules) in
    subst (IsNonDecreasingBy (λ (s : Stretch). s.lo)) (sym c.deref.ensures.value) sorted

pub returns : goal.returns
returns c =
    runs_moved (stretches.stretches_have c.deref.result.now) (stretches.stretches_have c.args.stretches.now.items) c.get-from.result c.args.asked.now.from (c.args.asked.now.last + 1) c.in_ok-runs.runs.items c.get-from.ensures.value
    (λ n. ap (λ l. stretches.stretches_have l n) c.deref.ensures.value ∙ sym (list_any-IsPermutation (stretches.stretch_has n) c.args.stretches.now.items c.sort_by_key.new.self.items c.in_ok-sort_by_key.ensures.permutation))
    c.in_ok-runs.ensures
