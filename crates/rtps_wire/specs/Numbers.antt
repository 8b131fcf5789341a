-- Which numbers of an item are sequence numbers. DDSI-RTPS 2.5, 9.3.2 "Mapping of the Types that Appear Within
-- Submessages or Built-in Topic Data": a sequence number has 64 bits and a sign.
use Rattle.std.specs.Prelude.{◌+◌, ◌<◌, ◌≤◌, ◌^◌}
use Rattle.rtps_wire.specs.Values as values

-- the number of a DATA, the first of a HEARTBEAT and each number of a GAP's list are at most 2^63 - 1
abbrev pub IsOfNumbers : values.BodyValue → Type 0
IsOfNumbers (values.BodyValue.Data body) = body.number < 2 ^ 63
IsOfNumbers (values.BodyValue.Heartbeat body) = body.first < 2 ^ 63
IsOfNumbers (values.BodyValue.Gap body) = body.list.base + body.list.count ≤ 2 ^ 63
IsOfNumbers _ = Unit {0}

-- an item whose numbers are sequence numbers. `items_tell_of_numbers` in proofs/Offered says so of each item that is
-- read
abbrev pub TellsOfNumbers : values.ItemValue → Type 0
TellsOfNumbers item = IsOfNumbers item.body
