use Rattle.std.proofs.lemmas.Grind.{common_steps}
use Rattle.std.proofs.lemmas.Bool.Decides.{nat_tests}
use Rattle.std.proofs.Common.{arith}
use Rattle.rtps_evidence.proofs.OutcomeCounts.{absent_counted}
use Rattle.rtps_evidence.proofs.outcome.Outcomes.absent.Goals as goal

pub returns : goal.returns
returns c = grind (arith, nat_tests, common_steps, absent_counted)
