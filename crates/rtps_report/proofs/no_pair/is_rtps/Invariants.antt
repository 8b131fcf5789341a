use Rattle.std.proofs.Common.{◌≡◌, false, is_some, map, take}
use Rattle.std.specs.List.{list_any}
use Rattle.rtps_report.specs.Stays as stays
use Rattle.rtps_report.proofs.no_pair.is_rtps.Given as goal

-- none of the datagrams so far has a header
abbrev pub invariant-loop-datagram : goal.invariant-loop-datagram
invariant-loop-datagram l = list_any (λ datagram. is_some (stays.sender_of datagram)) (map (λ datagram. datagram.now) (take l.datagram-index l.recording)) ≡ false
