-- What an item of a datagram says of fragments. DDSI-RTPS 2.5, 8.3.8.3 "DataFrag" and 8.3.8.12 "NackFrag". own: an item is skipped first, and
-- who puts samples together asks what it says.
use Rattle.std.specs.Prelude.{ℕ, Bool, false, ◌==◌, if◌then◌else◌, List, drop, Option, None}
use Rattle.rtps_wire.specs.DataFrag as data_frag
use Rattle.rtps_wire.specs.NackFrag as nack_frag
use Rattle.rtps_wire.specs.Tally as tally
use Rattle.rtps_wire.specs.Values as values
use Rattle.rtps_wire.specs.declared.layout.id.TheConstants as id_layout
use Rattle.rtps_wire.specs.declared.nack_frag.NackFrag.{NackFrag}

-- the fragments that stand at an item of these octets, if it is a DATA_FRAG that has some
abbrev pub fragments_at : List ℕ → values.ItemValue → Option data_frag.DataFragValue
fragments_at octets item = if tally.is_fragment item.body then data_frag.data_frag_at (drop item.at octets) else None

-- the submessage is skipped as a DATA_FRAG
abbrev pub is_skipped_data_frag : values.BodyValue → Bool
is_skipped_data_frag (values.BodyValue.Skipped id) = id == id_layout.DATA_FRAG
is_skipped_data_frag _ = false

-- the submessage is skipped as a NACK_FRAG
abbrev pub is_skipped_nack_frag : values.BodyValue → Bool
is_skipped_nack_frag (values.BodyValue.Skipped id) = id == id_layout.NACK_FRAG
is_skipped_nack_frag _ = false

-- what a reader asks for at an item of these octets, if it is a NACK_FRAG that can be read
abbrev pub asks_at : List ℕ → values.ItemValue → Option NackFrag
asks_at octets item = if is_skipped_nack_frag item.body then nack_frag.nack_frag_at (drop item.at octets) else None
