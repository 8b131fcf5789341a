use Rattle.std.proofs.Common.{map, take}
use Rattle.rtps_policies.specs.Namings as namings
use Rattle.rtps_report.specs.ActsRead as acts_read
use Rattle.rtps_report.proofs.acquaintance.namings_of.Given as goal

-- those of the datagrams so far
abbrev pub invariant-loop-place : goal.invariant-loop-place
invariant-loop-place l = namings.AreNamingsOf (acts_read.datagrams_read (map (λ datagram. datagram.now) (take l.place l.recording))) l.namings
