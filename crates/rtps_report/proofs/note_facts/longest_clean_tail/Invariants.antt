use Rattle.std.proofs.Common.{◌≡◌, map, take}
use Rattle.rtps_evidence.specs.Explanation as explanation
use Rattle.rtps_report.specs.NoteFacts as note_facts
use Rattle.rtps_report.proofs.note_facts.longest_clean_tail.Given as goal

-- of the rows so far
abbrev pub invariant-loop-row : goal.invariant-loop-row
invariant-loop-row l = l.longest ≡ note_facts.longest_clean_tail l.tail (map explanation.explanation_value (take l.row-index l.rows))
