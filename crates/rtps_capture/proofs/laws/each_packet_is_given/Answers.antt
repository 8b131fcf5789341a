use Rattle.rtps_capture.proofs.GivenLemmas as those
use Rattle.rtps_capture.proofs.laws.each_packet_is_given.Goals as goal

pub returns : goal.returns
returns c = record { given = those.packet_given; repeated = those.repeat_stays }
