use Rattle.std.proofs.Common.{◌≡◌, take}
use Rattle.rtps_evidence.specs.Times as times
use Rattle.rtps_evidence.proofs.datagram_times.DatagramTimes.end_before.Given as goal

abbrev pub invariant-loop-place : goal.invariant-loop-place
invariant-loop-place l = record { latest : l.latest ≡ times.end_of (take l.place l.self) }
