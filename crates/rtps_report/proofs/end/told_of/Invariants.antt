use Rattle.std.proofs.Common.{List, take}
use Rattle.rtps_receiver.specs.Values as values
use Rattle.rtps_audit.specs.Index as index
use Rattle.rtps_audit.specs.Intake as intake
use Rattle.rtps_who.specs.Introducing as introducing
use Rattle.rtps_who.specs.Telling as telling
use Rattle.rtps_report.proofs.EndLemmas.{told_to}
use Rattle.rtps_report.proofs.end.told_of.Given as goal

abbrev pub invariant-loop-endpoint : goal.invariant-loop-endpoint
invariant-loop-endpoint l =
    (intake : intake.Intake) (announcing : List values.ActValue) → index.IsIndexBy intake l.read.index.now → introducing.IsIntroducedBy announcing l.introductions
    → telling.IsToldBy announcing (told_to intake (take l.endpoint-index l.endpoint-items)) l.told
