-- The link types that are read from any capture. PCAP Capture File Format (IETF draft), 4 "File Header", and the registry of
-- link types that it names.
-- own: these are the ones under which systems record what they send over IP. Of classic captures alone two are read: a capture is
-- taken on one interface, whose frames are Ethernet frames or IP packets.
use Rattle.std.specs.Prelude.{ℕ, ◌==◌, ◌||◌, if◌then◌else◌, Option, Some, None}
use Rattle.rtps_capture.specs.declared.layout.link_type.TheConstants as link_type
use Rattle.rtps_capture.specs.declared.captures.Captures.{Captures}
use Rattle.rtps_capture.specs.declared.link_type.LinkType.{LinkType}

-- what the frames of this number are; those of another one are not read
abbrev pub link_type_numbered : ℕ → Option LinkType
link_type_numbered number =
    if number == link_type.LOOPBACK || number == link_type.LOOP then Some LinkType.Loopback
    else if number == link_type.ETHERNET then Some LinkType.Ethernet
    else if number == link_type.RAW then Some LinkType.Raw
    else if number == link_type.RAW_IPV4 then Some LinkType.RawIpv4
    else if number == link_type.RAW_IPV6 then Some LinkType.RawIpv6
    else if number == link_type.COOKED_1 then Some LinkType.Cooked1
    else if number == link_type.COOKED_2 then Some LinkType.Cooked2
    else None

-- what they are, of these captures
abbrev pub link_read : Captures → ℕ → Option LinkType
link_read Captures.Any number = link_type_numbered number
link_read Captures.Classic number = if number == link_type.ETHERNET || number == link_type.RAW then link_type_numbered number else None
