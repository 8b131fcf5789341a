use Rattle.std.proofs.Common.{◌++◌, ◌∙◌, List, ap, filter, map, take_all}
use Rattle.rtps_receiver.specs.Speech as speech
use Rattle.rtps_audit.specs.Placed as placed
use Rattle.rtps_audit.specs.declared.placed.Placed.{Placed}
use Rattle.rtps_page.specs.ChartTimes as chart_times
use Rattle.rtps_page.proofs.EntryLemmas.{spoken_from}
use Rattle.rtps_page.proofs.chart_times.add_said.Goals as goal

pub returns : goal.returns
returns c = λ intake is.
    let writer = c.args.writer in
    let said : List placed.PlacedValue → List placed.PlacedValue = λ acts. filter (λ placed. speech.is_spoken_by placed.act writer) acts in
    let all = ap (λ (l : List Placed). map placed.placed_value l) (take_all c.loop-placed.placed-index c.acts_of-placed-items.result.now c.loop-placed-test.false)
    ∙ c.acts_of-placed-items.ensures intake is in
    c.loop-placed.invariant
    ∙ ap (λ (l : List placed.PlacedValue). c.args.numbers.now.items ++ map (λ placed. placed.datagram) (filter chart_times.has_entry l)) (ap said all ∙ spoken_from writer (placed.placed_in intake.acts))
