use Rattle.std.proofs.Common.{◌++◌, List, map, take}
use Rattle.rtps_audit.specs.Placed as placed
use Rattle.rtps_known.specs.Matched as matched
use Rattle.rtps_known.specs.Places as places
use Rattle.rtps_receiver.specs.Values as values
use Rattle.rtps_report.specs.Acquaintance as acquaintance
use Rattle.rtps_report.specs.MatchingActs as matching_acts
use Rattle.rtps_report.proofs.acquaintance.note_samples.Given as goal

-- those of the samples so far
abbrev pub invariant-loop-sample : goal.invariant-loop-sample
invariant-loop-sample l =
    (before : List places.PlacedAct) → matched.AreMatchesOf before l.initial.matches
    → matched.AreMatchesOf (before ++ map (matching_acts.act_placed l.came) (acquaintance.samples_at (values.spoken_value l.act) (map placed.placed_value (take l.sample-index l.samples)))) l.matches
