use Rattle.std.proofs.Common.{◌≡◌, take}
use Rattle.rtps_page.specs.ChartEntries as chart_entries
use Rattle.rtps_page.proofs.tellings.readers_of.Given as goal

abbrev pub invariant-loop-pair : goal.invariant-loop-pair
invariant-loop-pair l = l.readers.items ≡ chart_entries.readers_of (take l.pair-index l.pairs) l.fn.writer
