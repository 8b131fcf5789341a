use Rattle.std.proofs.Common.{◌∙◌, subst}
use Rattle.std.proofs.lemmas.Result.{on_ok_weaker}
use Rattle.rtps_capture.specs.Course as course
use Rattle.rtps_passes.specs.Survey as survey
use Rattle.rtps_tool.proofs.PassesLemmas.{intake_more}
use Rattle.rtps_tool.proofs.passes.takers.SurveyedTake.take.Goals as goal

pub returns : goal.returns
returns c =
    let datagram = c.args.datagram.now in
    let one : course.DatagramValue = record { octets = datagram.octets.now; time = datagram.time; frame = datagram.frame } in
    on_ok_weaker c.note.result
    (λ noted start before was begun.
    subst (λ intake. survey.IsSurveyBy intake c.note.new.self) (intake_more before one _ _ c.in_ok-tally.ensures.tally (c.acts.ensures ∙ c.in_ok-tally.ensures.acts))
    (noted _ (was begun)))
    c.note.ensures
