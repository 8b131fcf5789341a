use Rattle.std.proofs.Common.{◌≡◌, map, take}
use Rattle.rtps_evidence.specs.Explanation as explanation
use Rattle.rtps_lines.specs.TailNames as tail_names
use Rattle.rtps_lines.proofs.tail_names.longest_tails.Given as goal

-- of the topics so far
abbrev pub invariant-loop-rows : goal.invariant-loop-rows
invariant-loop-rows l =
    map tail_names.tail_value l.tails.items ≡ tail_names.longest_tails (map (λ topic. map explanation.explanation_value topic.now) (take l.rows-index l.topics))
