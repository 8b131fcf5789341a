use Rattle.std.proofs.lemmas.Grind.{common_steps}
use Rattle.std.proofs.lemmas.Bool.Decides.{nat_tests}
use Rattle.std.proofs.Common.{arith}
use Rattle.rtps_evidence.proofs.MissedLemmas.{place_same}
use Rattle.rtps_evidence.proofs.span.Span.whole.Goals as goal

pub returns : goal.returns
returns c = grind (arith, nat_tests, common_steps, place_same)
