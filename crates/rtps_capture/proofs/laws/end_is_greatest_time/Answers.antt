use Rattle.rtps_capture.proofs.TimeLemmas.{end_greatest}
use Rattle.rtps_capture.proofs.laws.end_is_greatest_time.Goals as goal

pub returns : goal.returns
returns c = record { greatest = end_greatest }
