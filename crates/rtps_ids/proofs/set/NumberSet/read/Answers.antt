use Rattle.rtps_ids.proofs.SetBits.{clear_as_made}
use Rattle.rtps_ids.specs.NumberSet as number_set
use Rattle.rtps_ids.proofs.set.NumberSet.read.Goals as goal

pub set_of-requires-clause-clear : goal.set_of-requires-clause-clear
set_of-requires-clause-clear c = clear_as_made c.in-Some-Some.count (λ i. number_set.spelled_word c.args.order c.args.bytes.now i) _ c.read_words-words.ensures
