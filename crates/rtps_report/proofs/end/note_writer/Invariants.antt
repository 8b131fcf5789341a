use Rattle.std.proofs.Common.{◌++◌, List, map, take}
use Rattle.rtps_receiver.specs.Values as values
use Rattle.rtps_audit.specs.Placed as placed
use Rattle.rtps_who.specs.Introducing as introducing
use Rattle.rtps_who.specs.Telling as telling
use Rattle.rtps_report.proofs.end.note_writer.Given as goal

abbrev pub invariant-loop-placed : goal.invariant-loop-placed
invariant-loop-placed l =
    (announcing before : List values.ActValue) → introducing.IsIntroducedBy announcing l.introductions → telling.IsToldBy announcing before l.initial.told
    → telling.IsToldBy announcing (before ++ map (λ placed. placed.act) (map placed.placed_value (take l.placed-index l.acts))) l.told
