-- Headers that are passed on the way to a datagram. IEEE 802.1Q, 9 "Tag formats"; RFC 8200 "Internet Protocol, Version 6",
-- 4 "IPv6 Extension Headers"; RFC 6946 "Processing of IPv6 'Atomic' Fragments".
-- own: 9100 is a tag, too, since older devices write it. Extension headers are passed in any order and number.
use Rattle.std.specs.Prelude.{ℕ, zero, suc, ◌+◌, ◌*◌, ◌/◌, ◌%◌, ◌==◌, ◌&&◌, ◌||◌, nat_le, Bool, if◌then◌else◌, List, length, slice_index, Option, Some, None, option_map, unwrap_or}
use Rattle.rtps_ids.specs.declared.order.Order.{Order}
use Rattle.rtps_capture.specs.OctetNumbers as octet_numbers
use Rattle.rtps_capture.specs.declared.layout.extension.TheConstants as extension
use Rattle.rtps_capture.specs.declared.layout.tag.TheConstants as tag
use Rattle.rtps_capture.specs.declared.passed.Header.{Header}

-- what is behind at most so many headers that are passed: each takes an octet at least, so of as many as there are octets it is the last
unfoldable pub last_within : (Header → Option Header) → ℕ → Header → Header
last_within passed zero header = header
last_within passed (suc n) header = unwrap_or (option_map (last_within passed n) (passed header)) header

-- a type that says that a tag is behind it
abbrev pub is_tag : ℕ → Bool
is_tag kind = kind == tag.CUSTOMER || kind == tag.SERVICE || kind == tag.OLDER

-- a tag that is whole is passed: the type behind it stands in its last two octets
abbrev pub tag_passed : List ℕ → Header → Option Header
tag_passed frame header =
    if is_tag header.kind && nat_le (header.at + tag.SIZE) (length frame)
    then Some (record { kind = octet_numbers.two_at Order.Big frame (header.at + tag.TYPE); at = header.at + tag.SIZE })
    else None

-- hop-by-hop options, routing and destination options
abbrev pub is_extension : ℕ → Bool
is_extension kind = kind == extension.HOP_BY_HOP || kind == extension.ROUTING || kind == extension.DESTINATION

-- a fragment header that has neither an offset nor the flag for more fragments
abbrev pub is_atomic : List ℕ → ℕ → Bool
is_atomic packet at = octet_numbers.two_at Order.Big packet (at + extension.OFFSET) / 8 == 0 && octet_numbers.two_at Order.Big packet (at + extension.OFFSET) % 2 == 0

-- the size of an extension header that is whole at its front: its length counts eights of octets, the first left out
abbrev pub extension_size : List ℕ → ℕ → ℕ
extension_size packet at = extension.SIZE + extension.SIZE * slice_index packet (at + extension.LENGTH)

-- what is behind a header of this size, where the packet has all of it
abbrev pub behind_extension : List ℕ → ℕ → ℕ → Option Header
behind_extension packet at size =
    if nat_le (at + size) (length packet) then Some (record { kind = slice_index packet at; at = at + size }) else None

-- an extension header is passed by its length, and a fragment header where the packet is no fragment
abbrev pub extension_passed : List ℕ → Header → Option Header
extension_passed packet header =
    if nat_le (header.at + extension.SIZE) (length packet) then
    (if is_extension header.kind then behind_extension packet header.at (extension_size packet header.at)
    else if header.kind == extension.FRAGMENT && is_atomic packet header.at then behind_extension packet header.at extension.SIZE
    else None)
    else None
