use Rattle.rtps_capture.proofs.FrameLemmas as those
use Rattle.rtps_capture.proofs.laws.one_reading.Goals as goal

pub returns : goal.returns
returns c = record { exists = those.exists; unique = those.unique; read = those.read }
