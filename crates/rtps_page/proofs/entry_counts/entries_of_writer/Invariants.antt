use Rattle.std.proofs.Common.{◌≡◌, ◌≤◌, ◌*◌, [], List, length, map, take}
use Rattle.rtps_ids.specs.declared.identity.Guid.{Guid}
use Rattle.rtps_audit.specs.Placed as placed
use Rattle.rtps_page.specs.ChartEntries as chart_entries
use Rattle.rtps_page.proofs.entry_counts.entries_of_writer.Given as goal

abbrev pub invariant-loop-at : goal.invariant-loop-at
invariant-loop-at l = record {
  value : (readers : List Guid) → chart_entries.AreTellings readers (map placed.placed_value l.fn.acts) l.fn.tellings
      → l.count ≡ length (chart_entries.entries_behind readers [] (map placed.placed_value (take l.at l.fn.acts)));
  few : l.count ≤ l.at * 18446744073709551873;
}
