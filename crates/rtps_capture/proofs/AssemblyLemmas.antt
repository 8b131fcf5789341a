-- What a fragment leaves of its key.
use Rattle.std.proofs.Common.{◌≡◌, ℕ, Bool, true, false, List, refl}
use Rattle.std.specs.Prelude.{Option, if◌then◌else◌}
use Rattle.rtps_capture.specs.Assembly as assembly
use Rattle.rtps_capture.specs.Pieces as pieces
use Rattle.rtps_capture.specs.declared.assembly.Making.{Making}
use Rattle.rtps_capture.specs.declared.byte_range.ByteRange.{ByteRange}
use Rattle.rtps_capture.specs.declared.fragment.FragmentKey.{FragmentKey}
use Rattle.rtps_capture.specs.declared.pieces.Piece.{Piece}

-- the fragments of a key with a piece more
abbrev pub with_piece : Making → Piece → Making
with_piece making piece = record { making = pieces.pieces_with piece making.making; given = making.given }

-- one piece more is a repeat, or its packet waits, or that is whole
pub taken_cases : (file : List ℕ) (key : FragmentKey) (making : Making) (piece : Piece) (P : assembly.Joined → Type 0)
    → (pieces.is_repeat file piece making.making ≡ true → P (assembly.gives_none making false))
    → ((fresh : Bool) → pieces.fills 0 (pieces.in_order (pieces.pieces_with piece making.making)) ≡ false → P (assembly.gives_none (with_piece making piece) fresh))
    → ((fresh : Bool) → pieces.fills 0 (pieces.in_order (pieces.pieces_with piece making.making)) ≡ true → (datagram : Option ByteRange)
    → assembly.datagram_of_whole key (assembly.packet_of file (pieces.pieces_with piece making.making)) ≡ datagram
    → P (assembly.given_with file (with_piece making piece) fresh (assembly.packet_of file (pieces.pieces_with piece making.making)) datagram))
    → P (assembly.taken_piece file key making piece)
unfolding assembly.taken_piece assembly.given
taken_cases file key making piece P repeat waits whole = by (pieces.is_repeat file piece making.making) refl
  where
    new : Making
    new = with_piece making piece

    fresh : Bool
    fresh = assembly.is_new file making piece

    by_whole : (b : Bool) → pieces.fills 0 (pieces.in_order new.making) ≡ b → P (if b then assembly.given file key new fresh else assembly.gives_none new fresh)
    by_whole true is = whole fresh is (assembly.datagram_of_whole key (assembly.packet_of file new.making)) refl
    by_whole false is = waits fresh is

    by : (b : Bool) → pieces.is_repeat file piece making.making ≡ b → P (if b then assembly.gives_none making false else assembly.joined_with file key new fresh)
    by true is = repeat is
    by false is = by_whole (pieces.fills 0 (pieces.in_order new.making)) refl
