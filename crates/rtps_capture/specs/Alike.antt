-- Fragments that are kept in two places. RFC 791 "Internet Protocol", 2.3 "Function Description".
-- own: what is told of them does not depend on where their octets stand, so that these can be put elsewhere, and the others left out.
use Rattle.std.specs.Prelude.{ℕ, ◌+◌, ◌≡◌, ◌≤◌, ◌++◌, ◌⊎◌, List, [], ◌∷◌, length}
use Rattle.rtps_capture.specs.Course as course
use Rattle.rtps_capture.specs.Pieces as pieces
use Rattle.rtps_capture.specs.declared.assembly.KeyedMaking.{KeyedMaking}
use Rattle.rtps_capture.specs.declared.assembly.Making.{Making}
use Rattle.rtps_capture.specs.declared.fragment.FragmentHosts.{FragmentHosts}
use Rattle.rtps_capture.specs.declared.pieces.Piece.{Piece}

-- a piece of a file and one of what is kept: they have the same octets, and the second one stands in what is kept
pub record IsAlike (file kept : List ℕ) (one other : Piece) : Type 0 where
  pub start : one.start ≡ other.start
  pub end : one.end ≡ other.end
  pub more : one.more ≡ other.more
  pub octets : pieces.piece_octets file one ≡ pieces.piece_octets kept other
  pub within : other.at + pieces.piece_size other ≤ length kept

abbrev pub AreAlike : List ℕ → List ℕ → List Piece → List Piece → Type 0
AreAlike file kept [] [] = Unit {0}
AreAlike file kept [] (other ∷ others) = ⊥
AreAlike file kept (one ∷ ones) [] = ⊥
AreAlike file kept (one ∷ ones) (other ∷ others) = IsAlike file kept one other × AreAlike file kept ones others

-- the packet in the making, and the last one given
pub record AreMakings (file kept : List ℕ) (one other : Making) : Type 0 where
  pub making : AreAlike file kept one.making other.making
  pub given : AreAlike file kept one.given other.given

-- the keys of two hosts that are remembered
abbrev pub AreKeyed : List ℕ → List ℕ → List KeyedMaking → List KeyedMaking → Type 0
AreKeyed file kept [] [] = Unit {0}
AreKeyed file kept [] (other ∷ others) = ⊥
AreKeyed file kept (one ∷ ones) [] = ⊥
AreKeyed file kept (one ∷ ones) (other ∷ others) =
    (one.identification ≡ other.identification) × AreMakings file kept one.making other.making × AreKeyed file kept ones others

-- pieces that stand in one place are those of another, and these are they
abbrev pub AreMoved : List ℕ → List ℕ → List Piece → List Piece → Type 0
AreMoved from to ones others = AreAlike from to ones others × AreAlike to from others ones

abbrev pub MakingIsMoved : List ℕ → List ℕ → Making → Making → Type 0
MakingIsMoved from to one other = AreMakings from to one other × AreMakings to from other one

abbrev pub KeysAreMoved : List ℕ → List ℕ → List KeyedMaking → List KeyedMaking → Type 0
KeysAreMoved from to ones others = AreKeyed from to ones others × AreKeyed to from others ones

-- octets come behind these
abbrev pub GrowsTo : List ℕ → List ℕ → Type 0
GrowsTo old new = (more : List ℕ) × (new ≡ old ++ more)

-- the same is noted, and fragments have the same octets
pub record AreSettled (one other : course.Notes) : Type 0 where
  pub datagrams : one.datagrams ≡ other.datagrams
  pub start : one.start ≡ other.start
  pub end : one.end ≡ other.end
  pub counts : one.counts ≡ other.counts
  pub recent : (hosts : FragmentHosts) → KeysAreMoved one.kept other.kept (one.recent hosts) (other.recent hosts)

-- what is noted stays as it is, or is settled
abbrev pub Settles : course.Notes → course.Notes → Type 0
Settles old new = (new ≡ old) ⊎ AreSettled old new
