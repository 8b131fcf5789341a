use Rattle.std.proofs.Common.{arith, get_or, ◌∙◌}
use Rattle.std.proofs.lemmas.List.FromFn.{fill_by_all}
use Rattle.rtps_ids.specs.NumberSet as number_set
use Rattle.rtps_ids.proofs.SetBits.{clear_as_made}
use Rattle.rtps_ids.proofs.set.NumberSet.new.Goals as goal

pub returns-clause-words : goal.returns-clause-words
unfolding number_set.cleared_words
returns-clause-words c = c.set_of.ensures.words ∙ fill_by_all (λ i. number_set.cleared c.args.count (get_or c.args.words i 0) i) c.loop-i.cleared_words 8 0 c.loop-i.invariant.0 (λ k below. c.loop-i.invariant.1 k (omega arith))

pub set_of-requires-clause-clear : goal.set_of-requires-clause-clear
unfolding number_set.cleared_words
set_of-requires-clause-clear c =
    clear_as_made c.args.count (λ i. get_or c.args.words i 0) _
    (fill_by_all (λ i. number_set.cleared c.args.count (get_or c.args.words i 0) i) c.loop-i.cleared_words 8 0 c.loop-i.invariant.0 (λ k below. c.loop-i.invariant.1 k (omega arith)))
