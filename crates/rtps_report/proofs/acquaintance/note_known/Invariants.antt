use Rattle.std.proofs.Common.{◌++◌, List, map, take}
use Rattle.rtps_known.specs.Recorded as recorded
use Rattle.rtps_known.specs.Tellings as tellings
use Rattle.rtps_receiver.specs.Values as values
use Rattle.rtps_report.specs.ActsRead as acts_read
use Rattle.rtps_report.proofs.acquaintance.note_known.Given as goal

-- that of the acts so far
abbrev pub invariant-loop-act : goal.invariant-loop-act
invariant-loop-act l =
    (before : List tellings.TimedAct) → recorded.IsKnownOf before l.initial.known → recorded.IsKnownOf (before ++ acts_read.acts_at l.time (map values.spoken_value (take l.act-index l.acts))) l.known
