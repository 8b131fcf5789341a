use Rattle.std.proofs.lemmas.Grind.{common_steps}
use Rattle.std.proofs.lemmas.Bool.Decides.{nat_tests}
use Rattle.std.proofs.Common.{arith}
use Rattle.rtps_evidence.proofs.WaitLemmas.{found_next, none_left, none_past}
use Rattle.rtps_evidence.proofs.lost_answers.pass_counted.Goals as goal

pub returns-then-precedes-clause-next : goal.returns-then-precedes-clause-next
returns-then-precedes-clause-next c = grind (arith, nat_tests, common_steps, found_next)

pub loop-next-preserved : goal.loop-next-preserved
loop-next-preserved c = grind (arith, nat_tests, common_steps, none_past)

pub returns-clause-next : goal.returns-clause-next
returns-clause-next c = grind (arith, nat_tests, common_steps, none_left)
