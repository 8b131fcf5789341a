use Rattle.rtps_evidence.proofs.ActOrder.{recordings_are_in_order}
use Rattle.rtps_evidence.proofs.UnansweredLemmas.{unanswered_is_by_its_words}
use Rattle.rtps_evidence.proofs.laws.unanswered_is_by_its_words.Goals as goal

pub returns : goal.returns
returns c = record { words = unanswered_is_by_its_words; order = recordings_are_in_order c.first_datagrams_say_the_same.ensures.acts }
