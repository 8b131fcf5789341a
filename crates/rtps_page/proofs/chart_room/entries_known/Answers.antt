use Rattle.std.proofs.Common.{◌∙◌, List, [], ap, length, subst, sym}
use Rattle.rtps_audit.specs.Placed as placed
use Rattle.rtps_page.specs.ChartEntries as chart_entries
use Rattle.rtps_page.proofs.chart_room.entries_known.Goals as goal

pub returns-clause-entries : goal.returns-clause-entries
returns-clause-entries c = λ intake is known.
    let readers = chart_entries.readers_of c.args.said.pairs.now c.args.writer in
    let from = c.acts_of.ensures intake is in
    let are = subst (λ l. chart_entries.AreTellings readers l c.in_ok-tellings.tellings) (sym from) (c.in_ok-tellings.ensures intake is) in
    c.entries_of_writer.ensures readers are ∙ ap (λ (l : List placed.PlacedValue). length (chart_entries.entries_behind readers [] l)) from
