use Rattle.std.proofs.Common.{◌≡◌, ◌++◌, None, drop}
use Rattle.rtps_page.proofs.Written.{writers_behind}
use Rattle.rtps_page.proofs.chart_writers.writers_of.Given as goal

abbrev pub invariant-loop-pair : goal.invariant-loop-pair
invariant-loop-pair l = l.writers.items ++ writers_behind l.last (drop l.pair-index l.pairs) ≡ writers_behind None l.pairs
