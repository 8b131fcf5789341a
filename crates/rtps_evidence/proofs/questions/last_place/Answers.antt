use Rattle.std.proofs.Common.{rules}
use Rattle.rtps_evidence.proofs.QuestionLemmas.{last_place_more}
use Rattle.rtps_evidence.proofs.questions.last_place.Goals as goal

pub loop-answer-preserved : goal.loop-answer-preserved
loop-answer-preserved c = search (rules, last_place_more)
