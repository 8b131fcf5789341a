use Rattle.std.proofs.Common.{◌∙◌, subst}
use Rattle.std.proofs.lemmas.Result.{on_ok_weaker}
use Rattle.rtps_capture.specs.Course as course
use Rattle.rtps_passes.specs.Comparison as comparison
use Rattle.rtps_tool.proofs.PassesLemmas.{acts_more}
use Rattle.rtps_tool.proofs.passes.takers.ComparedTake.take.Goals as goal

pub returns : goal.returns
returns c =
    let datagram = c.args.datagram.now in
    let one : course.DatagramValue = record { octets = datagram.octets.now; time = datagram.time; frame = datagram.frame } in
    on_ok_weaker c.note.result
    (λ noted start before was from pairs recording begun.
    subst (λ told. comparison.IsComparisonBy from pairs recording told c.note.new.self) (acts_more before one _ (c.acts.ensures ∙ c.in_ok-read.ensures.acts))
    (noted from pairs recording _ (was from pairs recording begun)))
    c.note.ensures
