use Rattle.std.proofs.Common.{◌≡◌, ◌++◌, [], List, flat_map, map, take}
use Rattle.rtps_ids.specs.declared.identity.Guid.{Guid}
use Rattle.rtps_audit.specs.Placed as placed
use Rattle.rtps_page.specs.ChartEntries as chart_entries
use Rattle.rtps_page.proofs.Written.{json_tokens}
use Rattle.rtps_page.proofs.chart_writers.push_acts.Given as goal

abbrev pub invariant-loop-at : goal.invariant-loop-at
invariant-loop-at l = ((readers : List Guid) → chart_entries.AreTellings readers (map placed.placed_value l.fn.acts) l.fn.tellings
    → l.writer.tokens ≡ l.initial.writer.tokens ++ flat_map json_tokens (chart_entries.entries_behind readers [] (map placed.placed_value (take l.at l.fn.acts)))) × (l.writer.before ≡ l.initial.writer.before)
