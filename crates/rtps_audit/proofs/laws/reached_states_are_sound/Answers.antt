use Rattle.rtps_audit.proofs.Verdicts.{reached_states_are_sound}
use Rattle.rtps_audit.proofs.laws.reached_states_are_sound.Goals as goal

pub returns : goal.returns
returns c = reached_states_are_sound
