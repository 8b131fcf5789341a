use Rattle.std.proofs.Common.{◌≡◌, filter, map, take}
use Rattle.rtps_report.specs.BestEfforts as best_efforts
use Rattle.rtps_check.specs.ArrivedText as arrived_text
use Rattle.rtps_check.proofs.arrived_block.lossy_by_topic.Given as goal

-- those among the pairs so far, in their order
abbrev pub invariant-loop-one : goal.invariant-loop-one
invariant-loop-one l = map (λ one. best_efforts.held_value one.now) l.sorted.items ≡ filter arrived_text.is_lossy (map best_efforts.held_value (take l.one-index l.held))
