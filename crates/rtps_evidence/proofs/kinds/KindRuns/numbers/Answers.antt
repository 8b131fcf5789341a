use Rattle.std.proofs.Common.{◌∙◌, ◌++◌, ap}
use Rattle.rtps_evidence.proofs.LostLemmas.{all_runs}
use Rattle.rtps_evidence.proofs.kinds.KindRuns.numbers.Goals as goal

pub returns-clause-all : goal.returns-clause-all
returns-clause-all c = λ n.
    let one = c.in_ok-all.all.items in
    let two = c.extend_from_slice.new.self.items in
    let three = c.extend_from_slice-2.new.self.items in
    c.in_ok-numbers.ensures.same n n
    ∙ all_runs c.args.self.now one two three c.extend_from_slice-3.new.self.items n (c.in_ok-all.ensures.items ∙ c.deref.ensures.value)
    (c.in_ok-extend_from_slice.ensures.items ∙ ap (λ l. one ++ l) c.deref-2.ensures.value)
    (c.in_ok-extend_from_slice-2.ensures.items ∙ ap (λ l. two ++ l) c.deref-3.ensures.value)
    (c.in_ok-extend_from_slice-3.ensures.items ∙ ap (λ l. three ++ l) c.deref-4.ensures.value)
