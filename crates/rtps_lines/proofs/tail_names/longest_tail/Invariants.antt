use Rattle.std.proofs.Common.{◌≡◌, map, take}
use Rattle.rtps_evidence.specs.Explanation as explanation
use Rattle.rtps_lines.specs.TailNames as tail_names
use Rattle.rtps_lines.proofs.tail_names.longest_tail.Given as goal

-- of the rows so far
abbrev pub invariant-loop-row : goal.invariant-loop-row
invariant-loop-row l = l.longest ≡ tail_names.longest_tail (map explanation.explanation_value (take l.row-index l.rows))
