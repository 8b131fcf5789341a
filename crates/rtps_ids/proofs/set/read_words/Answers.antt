use Rattle.std.proofs.Common.{arith}
use Rattle.std.proofs.lemmas.List.FromFn.{fill_by_all}
use Rattle.rtps_ids.specs.NumberSet as number_set
use Rattle.rtps_ids.proofs.set.read_words.Goals as goal

pub returns : goal.returns
unfolding number_set.cleared_words
returns c = fill_by_all (λ i. number_set.cleared c.args.count (number_set.spelled_word c.args.order c.args.bytes.now i) i) c.loop-i.words 8 0 c.loop-i.invariant.0 (λ k below. c.loop-i.invariant.1 k (omega arith))
