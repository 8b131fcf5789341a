use Rattle.std.proofs.Common.{◌≡◌, ◌≤◌, ◌*◌, flat_map, length, map, take}
use Rattle.rtps_audit.specs.Placed as placed
use Rattle.rtps_page.specs.ChartEntries as chart_entries
use Rattle.rtps_page.proofs.entry_counts.entries_of_answers.Given as goal

abbrev pub invariant-loop-placed : goal.invariant-loop-placed
invariant-loop-placed l = record {
  value : l.count ≡ length (flat_map (λ placed. chart_entries.numbers_in placed.act.body) (map placed.placed_value (take l.placed-index l.answers)));
  few : l.count ≤ l.placed-index * 257;
}
