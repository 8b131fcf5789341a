use Rattle.std.proofs.Common.{◌≡◌, ◌||◌}
use Rattle.std.specs.BTreeSet.{contains}
use Rattle.std.specs.List.{list_any}
use Rattle.rtps_ids.specs.declared.identity.Guid.{Guid}
use Rattle.rtps_discovery.specs.GuidOrder as guid_order
use Rattle.rtps_known.specs.Lacking as lacking
use Rattle.rtps_known.proofs.bulletin.Bulletin.endpoints_among.Given as goal

-- those found, or among what is left
abbrev pub invariant-loop-announcement : goal.invariant-loop-announcement
invariant-loop-announcement l =
    (guid : Guid) → (contains guid_order.guid_cmp l.endpoints guid || list_any (lacking.is_listed l.told l.self l.base guid) l.announcement-iterator)
    ≡ list_any (lacking.is_listed l.told l.self l.base guid) l.self.announced.keys
