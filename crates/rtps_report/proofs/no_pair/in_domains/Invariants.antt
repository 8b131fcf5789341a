use Rattle.std.proofs.Common.{◌≡◌, take}
use Rattle.rtps_report.specs.NoPair as no_pair
use Rattle.rtps_report.proofs.no_pair.in_domains.Given as goal

-- those so far
abbrev pub invariant-loop-participant : goal.invariant-loop-participant
invariant-loop-participant l = l.known.items ≡ no_pair.in_domains (take l.participant-index l.participants)
