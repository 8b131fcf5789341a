-- Which prefix names everyone. DDSI-RTPS 2.5, 8.3.8.8 "InfoDestination" and 9.3.1.1 "Mapping of the GuidPrefix_t".
use Rattle.std.specs.Prelude.{◌==◌, Bool}
use Rattle.std.specs.List.{list_all}
use Rattle.rtps_ids.specs.declared.identity.GuidPrefix.{GuidPrefix}

-- all octets of the prefix are zero
abbrev pub is_unknown : GuidPrefix → Bool
is_unknown prefix = list_all (λ octet. octet == 0) prefix.0
