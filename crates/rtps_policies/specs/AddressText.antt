-- How an address is written. RFC 4291 "IP Version 6 Addressing Architecture", 2.2, form 1. own: no group of one of IPv6 is left out, so
-- that one address has one text.
use Rattle.std.specs.Prelude.{ℕ, ◌+◌, ◌*◌, ◌++◌, false, List, [], ◌∷◌, codes, decimal, slice_index}
use Rattle.std.specs.Fmt.{radix_digits}
use Rattle.std.specs.List.{concat}
use Rattle.rtps_policies.specs.declared.host.Address.{Address}

-- the numbers that pairs of octets spell
abbrev pub groups_of : List ℕ → List ℕ
groups_of [] = []
groups_of (octet ∷ []) = []
groups_of (high ∷ low ∷ octets) = (high * 256 + low) ∷ groups_of octets

-- a number in hexadecimal digits, without zeros in front
abbrev pub group_text : ℕ → List ℕ
group_text group = radix_digits 16 false group

-- groups with a colon between each two
abbrev pub groups_text : List ℕ → List ℕ
groups_text [] = []
groups_text (group ∷ []) = group_text group
groups_text (group ∷ next ∷ groups) = group_text group ++ (codes ":" ++ groups_text (next ∷ groups))

-- four numbers with points between, or eight groups
unfoldable pub address_text : Address → List ℕ
address_text (Address.V4 octets) =
    concat (decimal (slice_index octets 0) ∷ codes "." ∷ decimal (slice_index octets 1) ∷ codes "." ∷ decimal (slice_index octets 2) ∷ codes "."
    ∷ decimal (slice_index octets 3) ∷ [])
address_text (Address.V6 octets) = groups_text (groups_of octets)
