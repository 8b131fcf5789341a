use Rattle.std.proofs.Common.{◌≡◌, map, take}
use Rattle.rtps_audit.specs.Placed as placed
use Rattle.rtps_evidence.specs.Received as received
use Rattle.rtps_evidence.proofs.not_received.first_gone.Given as goal

-- the first so far
abbrev pub invariant-loop-placed : goal.invariant-loop-placed
invariant-loop-placed l = l.found ≡ received.gone_before l.fn.pair.writer l.fn.pair.reader l.fn.claimed.number l.fn.claimed.datagram (map placed.placed_value (take l.placed-index l.acts))
