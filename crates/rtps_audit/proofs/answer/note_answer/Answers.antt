use Rattle.rtps_audit.proofs.PlacedLemmas.{AddsAnswersOf-one}
use Rattle.rtps_audit.proofs.answer.note_answer.Goals as goal

pub returns-in_ok-push : goal.returns-in_ok-push
returns-in_ok-push c = AddsAnswersOf-one _ _ _ _ c.in-Some.pair c.in-Some.answer c.in-Some.ensures.reader c.in-Some.ensures.answer c.in_ok-push.ensures
