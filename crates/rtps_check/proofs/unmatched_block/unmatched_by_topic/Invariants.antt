use Rattle.std.proofs.Common.{◌≡◌, map, take}
use Rattle.rtps_check.proofs.unmatched_block.unmatched_by_topic.Given as goal

-- those so far, in their order
abbrev pub invariant-loop-one : goal.invariant-loop-one
invariant-loop-one l = map (λ one. one.now) l.sorted.items ≡ take l.one-index l.unmatched
