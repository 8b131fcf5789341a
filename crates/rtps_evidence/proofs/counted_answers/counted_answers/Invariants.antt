use Rattle.std.proofs.Common.{◌≡◌, List, filter, map, take}
use Rattle.rtps_receiver.specs.Values as values
use Rattle.rtps_audit.specs.Placed as placed
use Rattle.rtps_evidence.proofs.CountedLemmas.{AreCountedSoFar}
use Rattle.rtps_evidence.proofs.counted_answers.counted_answers.Given as goal

-- the answers so far
abbrev pub invariant-loop-placed : goal.invariant-loop-placed
invariant-loop-placed l =
    (recording : List (List values.ActValue)) → map placed.placed_value l.acts ≡ filter (placed.is_from l.fn.pair.reader) (placed.placed_in recording)
    → AreCountedSoFar l.fn.pair (map placed.placed_value l.acts) (map placed.placed_value (take l.placed-index l.acts)) l.requests l.counted.items
