use Rattle.std.proofs.Common.{◌∙◌, List, map, subst, IfOk}
use Rattle.rtps_ids.specs.declared.identity.Guid.{Guid}
use Rattle.rtps_audit.specs.Placed as placed
use Rattle.rtps_page.specs.ChartEntries as chart_entries
use Rattle.rtps_page.proofs.tellings.Said.tellings_of.Goals as goal

pub returns : goal.returns
returns c = λ intake is.
    let readers = c.deref.ensures.value ∙ c.in_ok-readers.ensures in
    subst (λ (l : List placed.PlacedValue). IfOk c.of.result (chart_entries.AreTellings (chart_entries.readers_of c.args.self.pairs.now c.args.writer) l)) (c.acts_of.ensures intake is)
    (subst (λ (l : List Guid). IfOk c.of.result (chart_entries.AreTellings l (map placed.placed_value c.acts_of.result.now))) readers c.of.ensures)
