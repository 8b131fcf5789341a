use Rattle.std.proofs.Common.{map, take}
use Rattle.rtps_audit.specs.Placed as placed
use Rattle.rtps_policies.specs.Announcing as announcing
use Rattle.rtps_report.proofs.talk.announced_in.Given as goal

abbrev pub invariant-loop-placed : goal.invariant-loop-placed
invariant-loop-placed l = announcing.IsAnnouncedBy (map (λ placed. placed.act) (map placed.placed_value (take l.placed-index l.announcements))) l.announced
