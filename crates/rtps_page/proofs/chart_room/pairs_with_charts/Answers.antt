use Rattle.std.proofs.Common.{◌≡◌, ◌∙◌, List, ap, filter, map}
use Rattle.rtps_evidence.specs.Explanation as explanation
use Rattle.rtps_page.specs.ChartRoom as chart_room
use Rattle.rtps_page.specs.declared.chart_room.Need.{Need}
use Rattle.rtps_page.proofs.ChartLemmas.{in_both_turns, mapped_twice}
use Rattle.rtps_page.proofs.Written.{placed_in}
use Rattle.rtps_page.proofs.chart_room.pairs_with_charts.Goals as goal

pub returns : goal.returns
returns c = λ intake is.
    let acts = placed_in intake.acts in
    let rows = map explanation.explanation_value c.args.rows.now in
    let needs : List Need = map (chart_room.need_of c.args.tail acts (chart_room.pairs_of rows)) rows in
    let begins : c.deref.result.now ≡ needs = c.deref.ensures.value ∙ c.in_ok-needs.ensures intake is ∙ mapped_twice explanation.explanation_value (chart_room.need_of c.args.tail acts c.args.said.pairs.now) c.args.rows.now
    ∙ ap (λ pairs. map (chart_room.need_of c.args.tail acts pairs) rows) c.requires in
    let middle = c.deref-2.ensures.value ∙ c.in_ok-room.ensures.needs in
    let end = c.deref-3.ensures.value ∙ c.in_ok-needs-2.ensures.needs in
    let all = in_both_turns needs c.deref.result.now c.deref-2.result.now c.deref-3.result.now c.in_ok-room.room begins c.in_ok-room.ensures.room middle end in
    c.in_ok-pairs.ensures ∙ ap (λ charted. map (λ need. need.pair) (filter (λ need. need.charted) charted)) all
