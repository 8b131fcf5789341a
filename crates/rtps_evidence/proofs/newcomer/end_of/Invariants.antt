use Rattle.std.proofs.Common.{◌≡◌, ◌≤◌, ◌<◌, ◌-◌, ◌^◌, true}
use Rattle.rtps_receiver.specs.Said as said
use Rattle.rtps_evidence.proofs.newcomer.end_of.Given as goal

-- the number before it is among them
abbrev pub invariant-apart : goal.invariant-apart
invariant-apart l = record { last : 0 < l.end → said.numbers_have l.numbers (l.end - 1) ≡ true; in_range : l.end ≤ 2 ^ 63 }

abbrev pub decreases-apart : goal.decreases-apart
decreases-apart l = 2 ^ 64 - l.end
