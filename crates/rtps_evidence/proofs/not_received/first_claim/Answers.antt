use Rattle.std.proofs.lemmas.Grind.{common_steps}
use Rattle.std.proofs.Common.{arith}
use Rattle.std.proofs.lemmas.Bool.Decides.{nat_tests}
use Rattle.rtps_evidence.proofs.FindLemmas.{found_here, none_yet}
use Rattle.rtps_evidence.proofs.not_received.first_claim.Goals as goal

pub returns-then-number-natural_base : goal.returns-then-number-natural_base
returns-then-number-natural_base c = grind (arith, nat_tests, common_steps, found_here)

pub loop-answer-preserved : goal.loop-answer-preserved
loop-answer-preserved c = grind (arith, nat_tests, common_steps, none_yet)
