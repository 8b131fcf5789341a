-- How a capture begins. PCAP Capture File Format (IETF draft), 4 "File Header".
-- own: every minor version is taken, since later ones only add.
use Rattle.std.specs.Prelude.{ℕ, ◌==◌, ◌||◌, ◌%◌, nat_lt, Bool, if◌then◌else◌, List, length, take, Option, Some, None, option_and_then}
use Rattle.std.specs.Option.{is_none, is_some}
use Rattle.rtps_ids.specs.declared.order.Order.{Order}
use Rattle.rtps_capture.specs.Blocks as blocks
use Rattle.rtps_capture.specs.LinkTypes as link_types
use Rattle.rtps_capture.specs.OctetNumbers as octet_numbers
use Rattle.rtps_capture.specs.declared.captures.Captures.{Captures}
use Rattle.rtps_capture.specs.declared.layout.file.TheConstants as file_layout

-- the two numbers that captures begin with
abbrev pub is_magic : ℕ → Bool
is_magic number = number == file_layout.MICROSECONDS || number == file_layout.NANOSECONDS

-- In which order the numbers of a capture's headers lie: the first four octets tell it. Other octets begin no capture.
unfoldable pub order_of : List ℕ → Option Order
order_of octets = if nat_lt (length octets) 4 then None else octet_numbers.order_by is_magic (take 4 octets) 0

-- the link type, the low 16 bits of a field, where the header is whole and its major version is the one that is read
unfoldable pub link_type_in : Order → List ℕ → Option ℕ
link_type_in order file =
    if nat_lt (length file) file_layout.SIZE then None
    else if octet_numbers.two_at order file file_layout.MAJOR == file_layout.VERSION then Some (octet_numbers.four_at order file file_layout.LINK % file_layout.LINKS)
    else None

-- this link type, unless it is one that is read
abbrev pub unless_read : ℕ → Option ℕ
unless_read number = if is_none (link_types.link_read Captures.Classic number) then Some number else None

-- the link type of a capture of that version that is not read as a classic one
abbrev pub unread_link_type_of : List ℕ → Option ℕ
unread_link_type_of file = option_and_then unless_read (option_and_then (λ order. link_type_in order file) (order_of file))

-- how many octets decide whether a file that is no classic capture is a pcapng file, where these captures are read
abbrev pub section_needed : Captures → List ℕ → ℕ
section_needed Captures.Classic octets = 4
section_needed Captures.Any octets = if blocks.is_pcapng octets then blocks.block_needed Order.Big octets 0 else 4

-- how many octets decide whether a file is one of these captures, and which
abbrev pub opening_needed : Captures → List ℕ → ℕ
opening_needed captures octets =
    if nat_lt (length octets) 4 then 4
    else if is_some (order_of octets) then file_layout.SIZE
    else section_needed captures octets
