use Rattle.rtps_capture.proofs.CarriedLemmas.{each_carried}
use Rattle.rtps_capture.proofs.laws.each_was_carried.Goals as goal

pub returns : goal.returns
returns c = record { carried = each_carried }
