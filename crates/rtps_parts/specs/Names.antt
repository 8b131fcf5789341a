-- How names that a recording has are written. own: they may hold any octets, and a line of a text may not be broken by them.
use Rattle.std.specs.Prelude.{ℕ, ◌==◌, ◌++◌, ◌&&◌, not, nat_le, if◌then◌else◌, List, [], ◌∷◌, codes}
use Rattle.std.specs.List.{flat_map}
use Rattle.hex.specs.Hex.{encode_lower}
use Rattle.rtps_ids.specs.declared.identity.Guid.{Guid}

-- a GUID: its prefix, a dot and its entity id
abbrev pub guid_text : Guid → List ℕ
guid_text guid = encode_lower guid.prefix.0 ++ 46 ∷ encode_lower guid.entity.0

-- an octet of a name: plain ASCII as it is, but for the quote (34) and the backslash (92); others as `\x` and two digits
unfoldable pub octet_text : ℕ → List ℕ
octet_text octet =
    if (nat_le 32 octet && nat_le octet 126) && (not (octet == 34) && not (octet == 92)) then octet ∷ [] else codes "\\x" ++ encode_lower (octet ∷ [])

-- a name between quotes
abbrev pub name_text : List ℕ → List ℕ
name_text name = 34 ∷ (flat_map octet_text name ++ 34 ∷ [])
