use Rattle.std.proofs.Common.{◌≡◌, map, take}
use Rattle.rtps_policies.specs.Unmatched as unmatched
use Rattle.rtps_policies.proofs.UnmatchedLemmas.{listed}
use Rattle.rtps_policies.proofs.unmatched.unmatched_in.Given as goal

-- those of the writers so far
abbrev pub invariant-loop-writer : goal.invariant-loop-writer
invariant-loop-writer l = map unmatched.unmatched_value l.found.items ≡ listed l.profiles (take l.writer-index l.profiles)
