use Rattle.std.proofs.Common.{◌≡◌, map, take}
use Rattle.rtps_audit.specs.Placed as placed
use Rattle.rtps_page.specs.ChartEntries as chart_entries
use Rattle.rtps_page.proofs.tellings.tellings_to.Given as goal

abbrev pub invariant-loop-reader : goal.invariant-loop-reader
invariant-loop-reader l = map chart_entries.counted_of l.each.items ≡ map (chart_entries.counts_for (map placed.placed_value l.fn.acts)) (take l.reader-index l.readers)
