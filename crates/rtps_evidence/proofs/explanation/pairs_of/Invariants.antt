use Rattle.std.proofs.Common.{◌≡◌, map, take}
use Rattle.rtps_evidence.proofs.explanation.pairs_of.Given as goal

abbrev pub invariant-loop-row : goal.invariant-loop-row
invariant-loop-row l = l.pairs.items ≡ map (λ row. row.pair) (take l.row-index l.rows)
