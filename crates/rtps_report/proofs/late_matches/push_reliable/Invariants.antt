use Rattle.std.proofs.Common.{◌≡◌, ◌++◌, take}
use Rattle.rtps_discovery.specs.Matching as matching
use Rattle.rtps_report.proofs.late_matches.push_reliable.Given as goal

-- those so far
abbrev pub invariant-loop-found : goal.invariant-loop-found
invariant-loop-found l = l.pairs.items ≡ l.initial.pairs.items ++ matching.reliable_pairs (take l.found-index l.matched)
