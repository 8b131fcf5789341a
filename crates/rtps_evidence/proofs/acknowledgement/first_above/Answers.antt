use Rattle.std.proofs.lemmas.Grind.{common_steps}
use Rattle.std.proofs.lemmas.Bool.Decides.{nat_tests}
use Rattle.std.proofs.Common.{arith}
use Rattle.rtps_evidence.proofs.FindLemmas.{claims_it, claims_not, found_here, none_yet}
use Rattle.rtps_evidence.proofs.acknowledgement.first_above.Goals as goal
use Rattle.rtps_evidence.proofs.acknowledgement.first_above.Goals.{else-answer-datagram-via-else-answer-datagram}

pub returns-then-number-natural_base : goal.returns-then-number-natural_base
returns-then-number-natural_base c = grind (arith, nat_tests, common_steps, found_here, claims_it)

pub loop-answer-preserved : goal.loop-answer-preserved
loop-answer-preserved c = grind (arith, nat_tests, common_steps, none_yet, claims_not, else-answer-datagram-via-else-answer-datagram)
