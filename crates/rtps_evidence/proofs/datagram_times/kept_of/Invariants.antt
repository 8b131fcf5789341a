use Rattle.std.proofs.Common.{◌≡◌, take}
use Rattle.rtps_evidence.specs.DatagramTimes as datagram_times
use Rattle.rtps_evidence.proofs.datagram_times.kept_of.Given as goal

abbrev pub invariant-loop-time : goal.invariant-loop-time
invariant-loop-time l = record { kept : datagram_times.times_kept l.numbers.items l.rest.items ≡ take l.time-index l.times }
