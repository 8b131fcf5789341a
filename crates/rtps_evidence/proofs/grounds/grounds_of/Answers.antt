use Rattle.std.proofs.lemmas.Grind.{common_steps}
use Rattle.std.proofs.lemmas.Bool.Decides.{nat_tests}
use Rattle.std.proofs.Common.{arith}
use Rattle.rtps_evidence.proofs.OriginLemmas.{teller_same}
use Rattle.rtps_evidence.proofs.grounds.grounds_of.Goals as goal

pub returns-in-Unfounded : goal.returns-in-Unfounded
returns-in-Unfounded c = grind (arith, nat_tests, common_steps, teller_same)
