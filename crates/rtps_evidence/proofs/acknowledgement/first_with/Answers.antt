use Rattle.std.proofs.lemmas.Grind.{common_steps}
use Rattle.std.proofs.lemmas.Bool.Decides.{nat_tests}
use Rattle.std.proofs.Common.{eq-eqb, arith}
use Rattle.rtps_evidence.proofs.FindLemmas.{differ, found_here, none_yet}
use Rattle.rtps_evidence.proofs.acknowledgement.first_with.Goals as goal

pub returns-then-natural_base-base : goal.returns-then-natural_base-base
returns-then-natural_base-base c = grind (arith, nat_tests, common_steps, found_here, eq-eqb)

pub loop-answer-preserved : goal.loop-answer-preserved
loop-answer-preserved c = grind (arith, nat_tests, common_steps, none_yet, differ)
