-- How the fragments of IP are put together. RFC 791 "Internet Protocol", 2.3 "Function Description"; RFC 8200 "Internet Protocol,
-- Version 6", 4.5 "Fragment Header".
-- own: a sender may use an identification again, and a recorder may record a frame twice or miss it. So a piece that is equal to
-- one that is there is a repeat, and while a new piece clashes with those that are there, the oldest of them goes.
use Rattle.std.specs.Prelude.{ℕ, ◌+◌, ◌-◌, ◌≡◌, ◌==◌, ◌≤◌, ◌<◌, ◌^◌, ◌&&◌, ◌||◌, not, nat_eq, nat_le, nat_lt, Bool, true, false, if◌then◌else◌, List, [], ◌∷◌, ◌++◌, drop, map, take}
use Rattle.std.specs.BTreeMap.{BTreeMap}
use Rattle.std.specs.List.{AllByRecursion, list_any}
use Rattle.std.specs.Cmp.Lexicographic.{pointwise}
use mathlib.Core.Bool.{beq}
use Rattle.rtps_capture.specs.Packets as packets
use Rattle.rtps_capture.specs.declared.pieces.Piece.{Piece}
use Rattle.rtps_capture.specs.declared.fragment.Fragment.{Fragment}

-- a fragment as it is kept
abbrev pub piece_of : Fragment → Piece
piece_of fragment = record {
  at = fragment.range.from;
  start = fragment.start;
  end = fragment.start + packets.fragment_size fragment;
  more = fragment.more;
}

-- how many octets a piece has
abbrev pub piece_size : Piece → ℕ
piece_size piece = piece.end - piece.start

-- its octets
abbrev pub piece_octets : List ℕ → Piece → List ℕ
piece_octets file piece = take (piece_size piece) (drop piece.at file)

-- equal in place, octets and what comes behind
abbrev pub is_same : List ℕ → Piece → Piece → Bool
is_same file one other =
    one.start == other.start && one.end == other.end && beq one.more other.more && pointwise nat_eq (piece_octets file one) (piece_octets file other)

-- a repeat of one of these pieces
abbrev pub is_repeat : List ℕ → Piece → List Piece → Bool
is_repeat file piece pieces = list_any (is_same file piece) pieces

-- One piece of a packet stands before another: it begins before it and ends before it or where it begins; it has more behind
-- it, or both name one end.
abbrev pub stands_before : Piece → Piece → Bool
stands_before one other =
    nat_lt one.start other.start && nat_le one.end other.start && (one.more || (not other.more && one.end == other.end))

-- no packet has both: they overlap, they name two ends, or one reaches past the end that the other names
abbrev pub clashes : Piece → Piece → Bool
clashes one other = not (stands_before one other || stands_before other one)

-- it clashes with one of these
abbrev pub clashes_with : List Piece → Piece → Bool
clashes_with pieces piece = list_any (clashes piece) pieces

-- what is left of these pieces, the oldest of which is the first, for a new one: those behind the last one that it clashes with
abbrev pub left_for : Piece → List Piece → List Piece
left_for piece [] = []
left_for piece (oldest ∷ pieces) = if clashes_with (oldest ∷ pieces) piece then left_for piece pieces else oldest ∷ pieces

-- the pieces in the making with a new one
abbrev pub pieces_with : Piece → List Piece → List Piece
pieces_with piece pieces = left_for piece pieces ++ piece ∷ []

-- a piece among others, in front of those that do not begin before it
abbrev pub put_in_order : Piece → List Piece → List Piece
put_in_order piece [] = piece ∷ []
put_in_order piece (first ∷ pieces) = if nat_lt first.start piece.start then first ∷ put_in_order piece pieces else piece ∷ first ∷ pieces

-- the pieces in the order in which they stand in the packet
abbrev pub in_order : List Piece → List Piece
in_order [] = []
in_order (piece ∷ pieces) = put_in_order piece (in_order pieces)

-- the pieces have all octets from a place on to the end: the first one begins there, each other one where the one before it
-- ends, and the last one has nothing behind it
abbrev pub fills : ℕ → List Piece → Bool
fills at [] = false
fills at (piece ∷ []) = piece.start == at && not piece.more
fills at (piece ∷ next ∷ pieces) = piece.start == at && fills piece.end (next ∷ pieces)

-- the octets of the pieces, one after another
abbrev pub joined : List ℕ → List Piece → List ℕ
joined file [] = []
joined file (piece ∷ pieces) = piece_octets file piece ++ joined file pieces

-- the pieces can be of one packet, and stand in its order
abbrev pub IsInOrder : List Piece → Type 0
IsInOrder [] = Unit {0}
IsInOrder (piece ∷ pieces) = AllByRecursion (λ next. stands_before piece next ≡ true) pieces × IsInOrder pieces

-- a piece ends behind its beginning, and not past what 32 bits count
abbrev pub IsSmall : Piece → Type 0
IsSmall piece = (piece.start ≤ piece.end) × (piece.end < 2 ^ 32)

-- how many octets the pieces have
abbrev pub sizes : List Piece → ℕ
sizes [] = 0
sizes (piece ∷ pieces) = piece_size piece + sizes pieces

-- a piece with the place where it begins
abbrev pub placed : Piece → ℕ × Piece
placed piece = (piece.start, piece)

-- pieces that can be of one packet, by the places where they begin, with so many octets
pub record AreKept (pieces : List Piece) (by_place : BTreeMap ℕ Piece) (held : ℕ) : Type 0 where
  pub ordered : IsInOrder (in_order pieces)
  pub small : AllByRecursion IsSmall (in_order pieces)
  pub placed_are : by_place.entries ≡ map placed (in_order pieces)
  pub held_is : held ≡ sizes (in_order pieces)
