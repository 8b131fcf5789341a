use Rattle.std.proofs.Common.{◌∙◌, ap, sym}
use Rattle.std.proofs.lemmas.List.Sorted.{list_any-IsPermutation}
use Rattle.rtps_coverage.specs.Stretches as stretches
use Rattle.rtps_coverage.proofs.stretches.in_order.Goals as goal

pub returns : goal.returns
returns c = λ n.
    c.in_ok-few.ensures n
    ∙ ap (λ l. stretches.stretches_have l n) c.deref.ensures.value
    ∙ sym (list_any-IsPermutation (stretches.stretch_has n) c.args.stretches.now.items c.sort_by_key.new.self.items c.in_ok-sort_by_key.ensures.permutation)
