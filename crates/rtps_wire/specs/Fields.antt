-- Fields at an offset of a body or a header. DDSI-RTPS 2.5, 9.3.1 "The Globally Unique Identifier (GUID)" and 9.3.2
-- "Mapping of the Types that Appear Within Submessages or Built-in Topic Data".
use Rattle.std.specs.Prelude.{ℕ, List, take, drop}
use Rattle.rtps_ids.specs.declared.identity.EntityId.{EntityId}
use Rattle.rtps_ids.specs.declared.identity.GuidPrefix.{GuidPrefix}
use Rattle.rtps_ids.specs.declared.identity.Vendor.{Vendor}

-- the entity id at an offset
abbrev pub entity_at : ℕ → List ℕ → EntityId
entity_at at octets = record { 0 = take 4 (drop at octets) }

-- the prefix of a GUID at an offset
abbrev pub prefix_at : ℕ → List ℕ → GuidPrefix
prefix_at at octets = record { 0 = take 12 (drop at octets) }

-- the vendor id at an offset
abbrev pub vendor_at : ℕ → List ℕ → Vendor
vendor_at at octets = record { 0 = take 2 (drop at octets) }
