-- Addresses in JSON. own: null where none is known.
use Rattle.std.specs.Prelude.{Option, None, Some}
use Rattle.json.specs.Json.{Json, null, string}
use Rattle.rtps_policies.specs.AddressText as address_text
use Rattle.rtps_policies.specs.declared.host.Address.{Address}

-- an address, or null
abbrev pub address_json : Option Address → Json
address_json None = null
address_json (Some address) = string (address_text.address_text address)
