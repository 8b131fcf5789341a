use Rattle.rtps_capture.proofs.TimeLemmas.{start_first}
use Rattle.rtps_capture.proofs.laws.start_is_first_time.Goals as goal

pub returns : goal.returns
returns c = record { first = start_first }
