use Rattle.std.proofs.Common.{◌≡◌, map, take}
use Rattle.std.specs.BTreeSet.{contains}
use Rattle.std.specs.List.{list_any}
use Rattle.rtps_ids.specs.declared.identity.Guid.{Guid}
use Rattle.rtps_audit.specs.Placed as placed
use Rattle.rtps_discovery.specs.GuidOrder as guid_order
use Rattle.rtps_report.specs.NotTold as not_told
use Rattle.rtps_report.proofs.not_told.those_not_told.Given as goal

-- those so far
abbrev pub invariant-loop-one : goal.invariant-loop-one
invariant-loop-one l = (guid : Guid) → contains guid_order.guid_cmp l.those guid ≡ list_any (λ one. placed.is_guid one.to guid) (map not_told.not_told_value (take l.one-index l.found))
