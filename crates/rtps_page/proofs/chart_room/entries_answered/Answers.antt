use Rattle.std.proofs.Common.{List, ◌∙◌, ap, flat_map, length, map}
use Rattle.rtps_audit.specs.Placed as placed
use Rattle.rtps_audit.specs.declared.placed.Placed.{Placed}
use Rattle.rtps_page.specs.ChartEntries as chart_entries
use Rattle.rtps_page.proofs.chart_room.entries_answered.Goals as goal

pub returns : goal.returns
returns c = λ intake is.
    c.entries_of_answers.ensures ∙ ap (λ (l : List Placed). length (flat_map (λ placed. chart_entries.numbers_in placed.act.body) (map placed.placed_value l))) c.deref.ensures.value
    ∙ ap (λ (l : List placed.PlacedValue). length (flat_map (λ placed. chart_entries.numbers_in placed.act.body) l)) (c.in_ok-answers.ensures intake is)
