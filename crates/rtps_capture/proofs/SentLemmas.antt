-- Each datagram that is told was carried by a packet.
use Rattle.std.proofs.Common.{◌≡◌, ℕ, ◌+◌, ◌-◌, ◌≤◌, Bool, true, false, List, [], ◌∷◌, ◌++◌, length, drop, take, refl, sym, ap, ap₂, subst, ◌∙◌, inr, arith}
use Rattle.std.specs.Prelude.{IfSome, ◌&&◌, not, nat_le, nat_eq, if◌then◌else◌, slice_range, None, Option, Some}
use Rattle.std.specs.List.{AllByRecursion}
use Rattle.std.proofs.lemmas.Bool.Decides.{nat_tests}
use Rattle.rtps_capture.specs.Assembly as assembly
use Rattle.rtps_capture.specs.Checksum as checksum
use Rattle.rtps_capture.specs.Packets as packets
use Rattle.rtps_capture.specs.Pieces as pieces_spec
use Rattle.rtps_capture.specs.Sent as sent
use Rattle.rtps_capture.specs.declared.assembly.Making.{Making}
use Rattle.rtps_capture.specs.declared.byte_range.ByteRange.{ByteRange}
use Rattle.rtps_capture.specs.declared.layout.udp.TheConstants as udp
use Rattle.rtps_capture.specs.declared.packet.Contents.{Contents}
use Rattle.rtps_capture.specs.declared.fragment.Fragment.{Fragment}
use Rattle.rtps_capture.specs.declared.fragment.FragmentKey.{FragmentKey}
use Rattle.rtps_capture.specs.declared.pieces.Piece.{Piece}
use Rattle.rtps_capture.proofs.AssemblyLemmas.{taken_cases, with_piece}
use Rattle.rtps_capture.proofs.PieceLemmas.{all_in_order, all_left}

-- a piece is a fragment of this key that stands in a frame
pub record IsOf (file : List ℕ) (frames : List Contents) (key : FragmentKey) (piece : Piece) : Type 0 where
  pub fragment : Fragment
  pub same_key : fragment.key ≡ key
  pub stands : sent.StandsAmong frames (Contents.Fragment fragment)
  pub is : piece ≡ pieces_spec.piece_of fragment

abbrev pub AreOf : List ℕ → List Contents → FragmentKey → List Piece → Type 0
AreOf file frames key pieces = AllByRecursion (IsOf file frames key) pieces

of_push : (file : List ℕ) (frames : List Contents) (key : FragmentKey) (piece : Piece) (pieces : List Piece) → AreOf file frames key pieces → IsOf file frames key piece
    → AreOf file frames key (pieces ++ piece ∷ [])
of_push file frames key piece [] all one = (one, tt)
of_push file frames key piece (first ∷ pieces) all one = (all.0, of_push file frames key piece pieces all.1 one)

of_drop : (file : List ℕ) (frames : List Contents) (key : FragmentKey) (pieces : List Piece) → AreOf file frames key pieces → AreOf file frames key (drop 1 pieces)
of_drop file frames key [] all = tt
of_drop file frames key (first ∷ pieces) all = all.1

-- the octets of a piece are those of its fragment
octets_of : (file : List ℕ) (frames : List Contents) (key : FragmentKey) (piece : Piece) (it : IsOf file frames key piece)
    → slice_range file it.fragment.range.from it.fragment.range.to ≡ pieces_spec.piece_octets file piece
octets_of file frames key piece it =
    let size : it.fragment.range.to - it.fragment.range.from ≡ it.fragment.start + packets.fragment_size it.fragment - it.fragment.start = omega arith in
    ap (λ (n : ℕ). take n (drop it.fragment.range.from file)) size ∙ ap (pieces_spec.piece_octets file) (sym it.is)

-- the fragments of pieces
pub record Together (file : List ℕ) (frames : List Contents) (key : FragmentKey) (at : ℕ) (pieces : List Piece) : Type 0 where
  pub fragments : List Fragment
  pub are : sent.AreFragments frames key fragments
  pub on : sent.GoOn at fragments
  pub octets : sent.put_together file fragments ≡ pieces_spec.joined file pieces

number_is : (a b : ℕ) → nat_eq a b ≡ true → a ≡ b
number_is a b is = grind (arith, nat_tests)

pub both : (a b : Bool) → (a && b) ≡ true → (a ≡ true) × (b ≡ true)
both true true is = (refl, refl)
both true false is = let no = is in cc
both false b is = let no = is in cc

not_is : (b : Bool) → not b ≡ true → b ≡ false
not_is false is = refl
not_is true is = let no = is in cc

goes_on : (at : ℕ) (fragment : Fragment) (fragments : List Fragment) → sent.GoOn (fragment.start + packets.fragment_size fragment) fragments → fragment.start ≡ at → sent.GoOn at (fragment ∷ fragments)
goes_on at fragment [] on start = absurd on
goes_on at fragment (next ∷ fragments) on start = (start, on)

pub together : (file : List ℕ) (frames : List Contents) (key : FragmentKey) (at : ℕ) (first : Piece) (pieces : List Piece) → AreOf file frames key (first ∷ pieces)
    → pieces_spec.fills at (first ∷ pieces) ≡ true → Together file frames key at (first ∷ pieces)
together file frames key at first [] all is =
    let here = both (nat_eq first.start at) (not first.more) is in
    let one = all.0 in record {
      fragments = one.fragment ∷ [];
      are = (one.same_key, one.stands, tt);
      on = (ap (λ (p : Piece). p.start) (sym one.is) ∙ number_is first.start at here.0, ap (λ (p : Piece). p.more) (sym one.is) ∙ not_is first.more here.1);
      octets = ap (λ (l : List ℕ). l ++ []) (octets_of file frames key first one);
    }
together file frames key at first (next ∷ pieces) all is =
    let here = both (nat_eq first.start at) (pieces_spec.fills first.end (next ∷ pieces)) is in
    by (together file frames key first.end next pieces all.1 here.1) (number_is first.start at here.0)
  where
    one : IsOf file frames key first
    one = all.0

    by : Together file frames key first.end (next ∷ pieces) → first.start ≡ at → Together file frames key at (first ∷ next ∷ pieces)
    by rest start = record {
      fragments = one.fragment ∷ rest.fragments;
      are = (one.same_key, one.stands, rest.are);
      on = goes_on at one.fragment rest.fragments (subst (λ (p : Piece). sent.GoOn p.end rest.fragments) one.is rest.on) (ap (λ (p : Piece). p.start) (sym one.is) ∙ start);
      octets = ap₂ (λ (a b : List ℕ). a ++ b) (octets_of file frames key first one) rest.octets;
    }

-- where the datagram stands of a packet that is put together
payload_there : (key : FragmentKey) (octets : List ℕ) (range : ByteRange) → assembly.datagram_of_whole key octets ≡ Some range
    → (range.from ≤ range.to) × (range.to ≤ length octets) × sent.IsPayload key octets (slice_range octets range.from range.to)
unfolding assembly.has_right_datagram
payload_there key octets range is = by (nat_le udp.SIZE (length octets)) (nat_le udp.SIZE n) refl (nat_le n (length octets)) refl (checksum.is_right key (take n octets)) refl is
  where
    n : ℕ
    n = assembly.udp_length octets

    goal : ByteRange → Type 0
    goal r = (r.from ≤ r.to) × (r.to ≤ length octets) × sent.IsPayload key octets (slice_range octets r.from r.to)

    by : (has least : Bool) → nat_le udp.SIZE n ≡ least → (within : Bool) → nat_le n (length octets) ≡ within → (right : Bool) → checksum.is_right key (take n octets) ≡ right
        → (if has && least && within && right then Some (record { from = udp.SIZE; to = n }) else None) ≡ Some range → goal range
    by true true least true within true right same =
        let there : ByteRange = record { from = udp.SIZE; to = n } in
        let found : there ≡ range = cc in
        let more : udp.SIZE ≤ n = grind (arith, nat_tests) in
        let fits : n ≤ length octets = grind (arith, nat_tests) in
        subst goal found (omega (arith, more), fits, (more, fits, right, refl))
    by true true least true within false right same = let none = same in cc
    by true true least false within right has same = let none = same in cc
    by true false least within fits right has same = let none = same in cc
    by false least more within fits right has same = let none = same in cc

-- what a fragment more leaves is sound
pub record JoinedSound (file : List ℕ) (frames : List Contents) (key : FragmentKey) (joined : assembly.Joined) : Type 0 where
  pub are : AreOf file frames key joined.making.making
  pub gives : IfSome joined.taken.datagram (λ range. (range.from ≤ range.to) × (range.to ≤ length joined.packet)
      × sent.WasCarried file frames (slice_range joined.packet range.from range.to))

pub taken_sound : (file : List ℕ) (frames : List Contents) (key : FragmentKey) (making : Making) (piece : Piece) → AreOf file frames key making.making
    → IsOf file frames key piece → JoinedSound file frames key (assembly.taken_piece file key making piece)
taken_sound file frames key making piece all one =
    taken_cases file key making piece (JoinedSound file frames key) (λ is. record { are = all; gives = tt }) (λ fresh part. record { are = more; gives = tt }) by
  where
    new : List Piece
    new = pieces_spec.pieces_with piece making.making

    octets : List ℕ
    octets = assembly.packet_of file new

    more : AreOf file frames key new
    more = of_push file frames key piece (pieces_spec.left_for piece making.making) (all_left (IsOf file frames key) piece making.making all) one

    parts : (pieces : List Piece) → AreOf file frames key pieces → pieces_spec.fills 0 pieces ≡ true → Together file frames key 0 pieces
    parts [] every is = let no = is in cc
    parts (first ∷ pieces) every is = together file frames key 0 first pieces every is

    by : (fresh : Bool) → pieces_spec.fills 0 (pieces_spec.in_order new) ≡ true → (datagram : Option ByteRange) → assembly.datagram_of_whole key octets ≡ datagram
        → JoinedSound file frames key (assembly.given_with file (with_piece making piece) fresh octets datagram)
    by fresh whole None is = record { are = of_drop file frames key new more; gives = tt }
    by fresh whole (Some range) is =
        let there = payload_there key octets range is in
        let put = parts (pieces_spec.in_order new) (all_in_order (IsOf file frames key) new more) whole in
        let payload = subst (λ (l : List ℕ). sent.IsPayload key l (slice_range octets range.from range.to)) (sym put.octets) there.2 in
        record { are = tt; gives = (there.0, there.1, inr (key, put.fragments, put.are, put.on, payload)) }
