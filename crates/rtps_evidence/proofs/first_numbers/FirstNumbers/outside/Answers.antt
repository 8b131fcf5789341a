use Rattle.std.proofs.lemmas.Grind.{common_steps}
use Rattle.std.proofs.lemmas.Bool.Decides.{nat_tests}
use Rattle.std.proofs.Common.{arith}
use Rattle.std.proofs.lemmas.Int.{ints}
use Rattle.rtps_evidence.proofs.FirstNumbersLemmas.{first_same}
use Rattle.rtps_evidence.proofs.first_numbers.FirstNumbers.outside.Goals as goal

pub returns : goal.returns
returns c = grind (arith, nat_tests, common_steps, ints, first_same)
