use Rattle.std.proofs.Common.{◌++◌, List, map, take}
use Rattle.rtps_audit.specs.Placed as placed
use Rattle.rtps_known.specs.Matched as matched
use Rattle.rtps_known.specs.Places as places
use Rattle.rtps_receiver.specs.Values as values
use Rattle.rtps_report.specs.Acquaintance as acquaintance
use Rattle.rtps_report.proofs.acquaintance.note_matches.Given as goal

-- those of the acts so far
abbrev pub invariant-loop-act : goal.invariant-loop-act
invariant-loop-act l =
    (before : List places.PlacedAct) → matched.AreMatchesOf before l.initial.matches
    → matched.AreMatchesOf (before ++ acquaintance.acts_heard l.came (map placed.placed_value l.samples) (map values.spoken_value (take l.act-index l.acts))) l.matches
