use Rattle.std.proofs.Common.{map, take}
use Rattle.std.specs.Option.{option_map}
use Rattle.rtps_audit.specs.Placed as placed
use Rattle.rtps_evidence.specs.Locations as locations
use Rattle.rtps_evidence.proofs.sent_payload.SentPayloads.of.Given as goal

-- by the acts so far
abbrev pub invariant-loop-placed : goal.invariant-loop-placed
invariant-loop-placed l =
    locations.AreSent l.fn.pair.writer l.fn.pair.reader l.fn.number (map placed.placed_value (take l.placed-index l.acts)) (option_map locations.sent_value l.sent.first) (option_map locations.sent_value l.sent.other)
