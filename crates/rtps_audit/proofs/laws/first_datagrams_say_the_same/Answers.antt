use Rattle.rtps_audit.proofs.SaidLemmas.{first_datagrams_decide, first_datagrams_say_the_same}
use Rattle.rtps_audit.proofs.laws.first_datagrams_say_the_same.Goals as goal

pub returns : goal.returns
returns c = record { acts = first_datagrams_say_the_same; verdict = first_datagrams_decide }
