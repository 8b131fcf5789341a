use Rattle.std.proofs.Common.{map, take}
use Rattle.rtps_audit.specs.Placed as placed
use Rattle.rtps_who.specs.Introducing as introducing
use Rattle.rtps_report.proofs.end.introductions_of.Given as goal

abbrev pub invariant-loop-placed : goal.invariant-loop-placed
invariant-loop-placed l = introducing.IsIntroducedBy (map (λ placed. placed.act) (map placed.placed_value (take l.placed-index l.announcements))) l.introductions
