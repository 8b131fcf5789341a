use Rattle.std.proofs.lemmas.Grind.{common_steps}
use Rattle.std.proofs.lemmas.Bool.Decides.{nat_tests}
use Rattle.std.proofs.Common.{arith}
use Rattle.rtps_evidence.proofs.last_announcement.Announced.first_from.Goals as goal

pub returns : goal.returns
returns c = λ writer acts is. grind (arith, nat_tests, common_steps)
