-- The order of GUIDs: prefix first, then entity id (DDSI-RTPS 2.5, 8.2.4.1 "Identifying RTPS entities: The GUID"),
-- octet by octet. own: the standard gives GUIDs no order, and a list of them needs one.
use Rattle.std.specs.Ordering.{nat_cmp, ordering_then}
use Rattle.std.specs.declared.cmp.Ordering.{Ordering}
use Rattle.std.specs.Cmp.Lexicographic.{slice_cmp}
use Rattle.rtps_ids.specs.declared.identity.Guid.{Guid}

-- the order of two GUIDs
abbrev pub guid_cmp : Guid → Guid → Ordering
guid_cmp a b = ordering_then (slice_cmp nat_cmp a.prefix.0 b.prefix.0) (slice_cmp nat_cmp a.entity.0 b.entity.0)
