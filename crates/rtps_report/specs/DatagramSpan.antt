-- Pieces of one row of octets, each kept by where it stands. own: two allocations for a recording; what stands between pieces is left there.
-- A datagram of UDP has at most 65,535 octets, so 16 bits of a span are its size, and the others where it begins.
use Rattle.std.specs.Prelude.{ℕ, ◌+◌, ◌/◌, ◌%◌, ◌^◌, ◌&&◌, nat_le, nat_lt, Bool, ◌≤◌, List, length, map, max, slice_range}
use Rattle.std.specs.List.{All}
use Rattle.rtps_report.specs.declared.datagram_span.DatagramSpan.{DatagramSpan}

-- the place of the first octet
unfoldable pub start_of : DatagramSpan → ℕ
start_of span = span.bits / 2 ^ 16

-- the place behind the last octet
unfoldable pub end_of : DatagramSpan → ℕ
end_of span = span.bits / 2 ^ 16 + span.bits % 2 ^ 16

-- octets from one place up to another have a span: at most 65,535 of them, that begin before 2^48
abbrev pub has_span : ℕ → ℕ → Bool
has_span from to = nat_le from to && nat_lt to (from + 2 ^ 16) && nat_lt from (2 ^ 48)

-- the octets of a span
abbrev pub piece : List ℕ → DatagramSpan → List ℕ
piece octets span = slice_range octets (start_of span) (end_of span)

-- the pieces of these spans
abbrev pub pieces : List ℕ → List DatagramSpan → List (List ℕ)
pieces octets spans = map (piece octets) spans

-- a span among so many octets
abbrev pub StandsWithin : ℕ → DatagramSpan → Type 0
StandsWithin size span = (start_of span ≤ end_of span) × (end_of span ≤ size)

-- all these spans lie within the octets
abbrev pub AreSpans : List ℕ → List DatagramSpan → Type 0
AreSpans octets spans = All (StandsWithin (length octets)) spans

-- the room for so many items and so many more, and for an eighth of those that are there besides, 65,536 at least: it stays near what is
-- needed, so that a machine that can hold a recording can read it
abbrev pub roomy_size : ℕ → ℕ → ℕ
roomy_size size more = size + more + max (size / 8) 65536
