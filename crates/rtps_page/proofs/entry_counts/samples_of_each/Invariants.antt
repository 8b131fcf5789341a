use Rattle.std.proofs.Common.{◌≡◌, ◌≤◌, ◌*◌, ℕ, flat_map, length, map, take}
use Rattle.rtps_evidence.specs.declared.location.Location.{Location}
use Rattle.rtps_page.specs.ChartEntries as chart_entries
use Rattle.rtps_page.proofs.entry_counts.samples_of_each.Given as goal

abbrev pub invariant-loop-telling : goal.invariant-loop-telling
invariant-loop-telling l = record {
  value : (place : Location) (number : ℕ) → l.count ≡ length (flat_map (chart_entries.samples_to place number) (map (chart_entries.told_of l.fn.told.at) (take l.telling-index l.fn.told.tellings.now.each.items)));
  few : l.count ≤ l.telling-index * 2;
}
