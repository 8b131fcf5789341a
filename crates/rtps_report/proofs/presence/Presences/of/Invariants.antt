use Rattle.std.proofs.Common.{map, take}
use Rattle.rtps_report.specs.Stays as stays
use Rattle.rtps_report.proofs.presence.Presences.of.Given as goal

-- that of the datagrams so far
abbrev pub invariant-loop-place : goal.invariant-loop-place
invariant-loop-place l = stays.ArePresencesOf (map (λ datagram. datagram.now) (take l.place l.recording)) l.times.of_datagrams l.presences
