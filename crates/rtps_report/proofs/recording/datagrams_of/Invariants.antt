use Rattle.std.proofs.Common.{◌≡◌, ◌++◌, map}
use Rattle.rtps_report.proofs.recording.datagrams_of.Given as goal

abbrev pub invariant-loop-octets : goal.invariant-loop-octets
invariant-loop-octets l =
    (goal.iterator-loop-octets).can_next l.octets-iterator
    × (goal.iterator-loop-octets).is_finite l.octets-iterator
    × (map (λ datagram. datagram.now) l.datagrams.items ++ l.octets-iterator ≡ l.recording.datagrams)
