use Rattle.rtps_capture.proofs.AgreementLemmas.{course_agrees}
use Rattle.rtps_capture.proofs.laws.course_is_told.Goals as goal

pub returns : goal.returns
returns c = record { agrees = course_agrees }
