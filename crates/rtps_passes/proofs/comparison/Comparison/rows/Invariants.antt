use Rattle.std.proofs.Common.{ℕ, List, take}
use Rattle.std.specs.Prelude.{flat_map}
use Rattle.rtps_receiver.specs.Values as values
use Rattle.rtps_discovery.specs.declared.matching.Pair.{Pair}
use Rattle.rtps_audit.specs.Account as account
use Rattle.rtps_passes.specs.Comparison as comparison
use Rattle.rtps_passes.specs.Judging as judging
use Rattle.rtps_passes.proofs.comparison.Comparison.rows.Given as goal

-- the rows of the writers so far
abbrev pub invariant-loop-place : goal.invariant-loop-place
invariant-loop-place l = (from : ℕ) (pairs : List Pair) (recording : List (List values.ActValue)) → comparison.IsComparisonBy from pairs recording recording l.self
    → account.AreRowsOf from recording (flat_map judging.pairs_of (take l.place l.self.judging.now.writers.items)) l.rows.items
