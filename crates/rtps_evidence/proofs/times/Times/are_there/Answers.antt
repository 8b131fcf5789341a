use Rattle.std.proofs.lemmas.Bool.Decides.{nat_tests}
use Rattle.std.proofs.Common.{arith}
use Rattle.std.proofs.lemmas.Grind.{common_steps}
use Rattle.std.proofs.lemmas.List.{take_all}
use Rattle.rtps_evidence.proofs.TimeLemmas.{there_is_end}
use Rattle.rtps_evidence.proofs.times.Times.are_there.Goals as goal

pub returns : goal.returns
returns c = grind (arith, nat_tests, common_steps, take_all, there_is_end)
