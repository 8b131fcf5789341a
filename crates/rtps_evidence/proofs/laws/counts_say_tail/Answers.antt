use Rattle.rtps_evidence.proofs.CleanLemmas.{counts_say_tail}
use Rattle.rtps_evidence.proofs.laws.counts_say_tail.Goals as goal

pub returns : goal.returns
returns c = counts_say_tail
