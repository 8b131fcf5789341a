use Rattle.std.proofs.lemmas.Grind.{common_steps}
use Rattle.std.proofs.lemmas.Bool.Decides.{nat_tests}
use Rattle.std.proofs.Common.{arith}
use Rattle.std.proofs.lemmas.Int.{ints}
use Rattle.rtps_evidence.proofs.MadeLemmas.{announcement_made}
use Rattle.rtps_evidence.proofs.last_announcement.announcing.Goals as goal

pub returns : goal.returns
returns c = grind (arith, nat_tests, common_steps, announcement_made, ints)
