-- Each whole packet is given: what waited goes before its pieces do.
use Rattle.std.proofs.Common.{◌≡◌, ℕ, ◌≤◌, Bool, true, false, List, [], ◌∷◌, ◌++◌, drop, refl, sym, ap, ap₂, subst, ◌∙◌, append_assoc, append-nil, arith}
use Rattle.std.specs.Prelude.{None, Option, Some, ◌||◌, nat_eq, if◌then◌else◌}
use Rattle.std.specs.List.{AllByRecursion, list_any}
use Rattle.std.proofs.lemmas.Bool.Decides.{nat_tests}
use Rattle.std.proofs.lemmas.List.Folds.{list_any-append}
use Rattle.rtps_capture.specs.Assembly as assembly
use Rattle.rtps_capture.specs.Pieces as pieces_spec
use Rattle.rtps_capture.specs.Sent as sent
use Rattle.rtps_capture.specs.declared.assembly.Making.{Making}
use Rattle.rtps_capture.specs.declared.byte_range.ByteRange.{ByteRange}
use Rattle.rtps_capture.specs.declared.fragment.FragmentKey.{FragmentKey}
use Rattle.rtps_capture.specs.declared.pieces.Piece.{Piece}
use Rattle.rtps_capture.proofs.AssemblyLemmas.{taken_cases, with_piece}
use Rattle.rtps_capture.proofs.PieceLemmas.{all_left, any-in_order, left_all, none_pass, or_false, starts_differ}
use Rattle.rtps_capture.proofs.SentLemmas.{both}

pub repeat_stays : (file : List ℕ) (key : FragmentKey) (making : Making) (piece : Piece) → pieces_spec.is_repeat file piece making.making ≡ true
    → ((assembly.taken_piece file key making piece).making ≡ making) × ((assembly.taken_piece file key making piece).taken.datagram ≡ None)
unfolding assembly.taken_piece
repeat_stays file key making piece is = rw is (refl, refl)

pub clash-sym : (one other : Piece) → pieces_spec.clashes one other ≡ pieces_spec.clashes other one
clash-sym one other = grind (arith, nat_tests)

none_passes : (test : Piece → Bool) (pieces : List Piece) → AllByRecursion (λ piece. test piece ≡ false) pieces → list_any test pieces ≡ false
none_passes test [] all = refl
none_passes test (piece ∷ pieces) all = ap₂ (λ (a b : Bool). a || b) all.0 (none_passes test pieces all.1)

-- a piece that clashes with none of these is no repeat of one of them
other_than : (file : List ℕ) (piece : Piece) (pieces : List Piece) → AllByRecursion (λ other. pieces_spec.clashes piece other ≡ false) pieces → pieces_spec.is_repeat file piece pieces ≡ false
other_than file piece [] apart = refl
other_than file piece (first ∷ pieces) apart =
    let one : pieces_spec.is_same file piece first ≡ false = let other = starts_differ piece first apart.0 in rw other refl in
    ap₂ (λ (a b : Bool). a || b) one (other_than file piece pieces apart.1)

-- there is no room for a piece with an octet where the pieces have all octets
no_room : (piece : Piece) (pieces : List Piece) (at : ℕ) → pieces_spec.fills at pieces ≡ true → AllByRecursion (λ other. pieces_spec.clashes piece other ≡ false) pieces → at ≤ piece.start → sent.HasOctet piece → ⊥
no_room piece [] at whole apart from some = let no = whole in cc
no_room piece (only ∷ []) at whole apart from some = grind (arith, nat_tests)
no_room piece (first ∷ next ∷ pieces) at whole apart from some =
    let here = both (nat_eq first.start at) (pieces_spec.fills first.end (next ∷ pieces)) whole in
    let behind : first.end ≤ piece.start = grind (arith, nat_tests) in no_room piece (next ∷ pieces) first.end here.1 apart.1 behind some

none_left : (piece : Piece) (pieces : List Piece) → pieces_spec.fills 0 (pieces_spec.in_order pieces) ≡ true → pieces_spec.clashes_with pieces piece ≡ false → sent.HasOctet piece → ⊥
none_left piece pieces whole apart some =
    no_room piece (pieces_spec.in_order pieces) 0 whole (none_pass (pieces_spec.clashes piece) (pieces_spec.in_order pieces) (any-in_order (pieces_spec.clashes piece) pieces ∙ apart)) (omega arith) some

-- what is left of the pieces that waited, for another one
left_apart : (piece : Piece) (pieces : List Piece) → pieces_spec.clashes_with (pieces_spec.left_for piece pieces) piece ≡ false
left_apart piece [] = refl
left_apart piece (oldest ∷ pieces) = by (pieces_spec.clashes_with (oldest ∷ pieces) piece) refl (left_apart piece pieces)
  where
    by : (some : Bool) → pieces_spec.clashes_with (oldest ∷ pieces) piece ≡ some → pieces_spec.clashes_with (pieces_spec.left_for piece pieces) piece ≡ false
        → pieces_spec.clashes_with (if some then pieces_spec.left_for piece pieces else oldest ∷ pieces) piece ≡ false
    by true is rest = rest
    by false is rest = is

left_append : (piece : Piece) (old done : List Piece) → pieces_spec.clashes_with done piece ≡ false → pieces_spec.left_for piece (old ++ done) ≡ pieces_spec.left_for piece old ++ done
left_append piece [] done none = left_all piece done none
left_append piece (oldest ∷ old) done none =
    by (pieces_spec.clashes_with (oldest ∷ old) piece) (pieces_spec.clashes_with (oldest ∷ (old ++ done)) piece) same (left_append piece old done none)
  where
    same : pieces_spec.clashes_with (oldest ∷ (old ++ done)) piece ≡ pieces_spec.clashes_with (oldest ∷ old) piece
    same = list_any-append (pieces_spec.clashes piece) (oldest ∷ old) done ∙ ap (λ (b : Bool). pieces_spec.clashes_with (oldest ∷ old) piece || b) none ∙ or_false (pieces_spec.clashes_with (oldest ∷ old) piece)

    by : (some all : Bool) → all ≡ some → pieces_spec.left_for piece (old ++ done) ≡ pieces_spec.left_for piece old ++ done
        → (if all then pieces_spec.left_for piece (old ++ done) else oldest ∷ (old ++ done)) ≡ (if some then pieces_spec.left_for piece old else oldest ∷ old) ++ done
    by true true is rest = rest
    by false false is rest = refl
    by true false is rest = let no = is in cc
    by false true is rest = let no = is in cc

-- a piece that waited and is left, where these of the packet came and these are to come
record IsOld (file : List ℕ) (done coming : List Piece) (piece : Piece) : Type 0 where
  other : sent.IsOther file coming piece
  apart : pieces_spec.clashes_with done piece ≡ false

-- of the packet these pieces came and these are still to come; these waited and are left
record IsComing (file : List ℕ) (old done coming : List Piece) : Type 0 where
  apart : sent.AreApart done coming
  octets : AllByRecursion sent.HasOctet coming
  old_are : AllByRecursion (IsOld file done coming) old

old_more : (file : List ℕ) (piece : Piece) (old done coming : List Piece) → AllByRecursion (IsOld file done (piece ∷ coming)) old
    → AllByRecursion (λ other. pieces_spec.clashes piece other ≡ false) old → AllByRecursion (IsOld file (done ++ piece ∷ []) coming) old
old_more file piece [] done coming all apart = tt
old_more file piece (first ∷ old) done coming all apart =
    let here = ap₂ (λ (a b : Bool). a || (b || false)) all.0.apart (clash-sym first piece ∙ apart.0) in
    (record { other = (all.0.other.0, all.0.other.1.1); apart = list_any-append (pieces_spec.clashes first) done (piece ∷ []) ∙ here }, old_more file piece old done coming all.1 apart.1)

one_came : (file : List ℕ) (piece : Piece) (old done coming : List Piece) → IsComing file old done (piece ∷ coming) → IsComing file (pieces_spec.left_for piece old) (done ++ piece ∷ []) coming
one_came file piece old done coming is = record {
  apart = is.apart.1;
  octets = is.octets.1;
  old_are = old_more file piece (pieces_spec.left_for piece old) done coming (all_left (IsOld file done (piece ∷ coming)) piece old is.old_are)
      (none_pass (pieces_spec.clashes piece) (pieces_spec.left_for piece old) (left_apart piece old));
}

-- the piece to come is no repeat, and is added behind what is left
same_none : (file : List ℕ) (piece : Piece) (old done coming : List Piece) → AllByRecursion (IsOld file done (piece ∷ coming)) old → AllByRecursion (λ other. pieces_spec.is_same file piece other ≡ false) old
same_none file piece [] done coming all = tt
same_none file piece (first ∷ old) done coming all = (all.0.other.1.0, same_none file piece old done coming all.1)

no_repeat : (file : List ℕ) (piece : Piece) (old done coming all : List Piece) → all ≡ old ++ done → IsComing file old done (piece ∷ coming) → pieces_spec.is_repeat file piece all ≡ false
no_repeat file piece old done coming all at is =
    ap (pieces_spec.is_repeat file piece) at ∙ list_any-append (pieces_spec.is_same file piece) old done
    ∙ ap₂ (λ (a b : Bool). a || b) (none_passes (pieces_spec.is_same file piece) old (same_none file piece old done coming is.old_are)) (other_than file piece done (none_pass (pieces_spec.clashes piece) done is.apart.0))

with_next : (file : List ℕ) (piece : Piece) (old done coming all : List Piece) → all ≡ old ++ done → IsComing file old done (piece ∷ coming)
    → pieces_spec.pieces_with piece all ≡ pieces_spec.left_for piece old ++ (done ++ piece ∷ [])
with_next file piece old done coming all at is =
    ap (pieces_spec.pieces_with piece) at ∙ ap (λ (l : List Piece). l ++ piece ∷ []) (left_append piece old done is.apart.0) ∙ append_assoc (pieces_spec.left_for piece old) done (piece ∷ [])

-- what is left behind one of them, which is not the last
record GoesOn (file : List ℕ) (making : Making) (done coming : List Piece) : Type 0 where
  old : List Piece
  at : making.making ≡ old ++ done
  coming_are : IsComing file old done coming

goes_on : (file : List ℕ) (key : FragmentKey) (making : Making) (piece next : Piece) (old done coming more : List Piece) → making.making ≡ old ++ done
    → IsComing file old done (piece ∷ coming) → coming ≡ next ∷ more → (assembly.taken_piece file key making piece).taken.datagram ≡ None
    → GoesOn file (assembly.taken_piece file key making piece).making (done ++ piece ∷ []) coming
goes_on file key making piece next old done coming more at is nexts =
    taken_cases file key making piece (λ joined. joined.taken.datagram ≡ None → GoesOn file joined.making all coming)
    (λ repeat none. let no = sym repeat ∙ no_repeat file piece old done coming making.making at is in cc)
    (λ fresh part none. record { old = pieces_spec.left_for piece old; at = put; coming_are = came })
    (λ fresh whole datagram gave none. by fresh datagram none (pieces_spec.left_for piece old) put came (ap (λ (l : List Piece). pieces_spec.fills 0 (pieces_spec.in_order l)) (sym put) ∙ whole))
  where
    all : List Piece
    all = done ++ piece ∷ []

    put : pieces_spec.pieces_with piece making.making ≡ pieces_spec.left_for piece old ++ all
    put = with_next file piece old done coming making.making at is

    came : IsComing file (pieces_spec.left_for piece old) all coming
    came = one_came file piece old done coming is

    by : (fresh : Bool) (datagram : Option ByteRange)
        → (assembly.given_with file (with_piece making piece) fresh (assembly.packet_of file (pieces_spec.pieces_with piece making.making)) datagram).taken.datagram ≡ None
        → (left : List Piece) → pieces_spec.pieces_with piece making.making ≡ left ++ all → IsComing file left all coming → pieces_spec.fills 0 (pieces_spec.in_order (left ++ all)) ≡ true
        → GoesOn file (assembly.given_with file (with_piece making piece) fresh (assembly.packet_of file (pieces_spec.pieces_with piece making.making)) datagram).making all coming
    by fresh (Some range) none left there is_coming whole = let no = none in cc
    by fresh None none [] there is_coming whole =
        let next_are = subst (IsComing file [] all) nexts is_coming in absurd (none_left next all whole next_are.apart.0 next_are.octets.0)
    by fresh None none (oldest ∷ left) there is_coming whole = record {
      old = left;
      at = ap (drop 1) there;
      coming_are = record { apart = is_coming.apart; octets = is_coming.octets; old_are = is_coming.old_are.1 };
    }

-- the last one
abbrev IsGiven : List ℕ → Option ByteRange → assembly.Joined → List Piece → Type 0
IsGiven file datagram joined pieces = (joined.taken.datagram ≡ datagram) × (joined.packet ≡ assembly.packet_of file pieces)

last_gives : (file : List ℕ) (key : FragmentKey) (making : Making) (last : Piece) (old done : List Piece) (range : ByteRange) → making.making ≡ old ++ done
    → IsComing file old done (last ∷ []) → pieces_spec.fills 0 (pieces_spec.in_order (done ++ last ∷ [])) ≡ true → assembly.datagram_of_whole key (assembly.packet_of file (done ++ last ∷ [])) ≡ Some range
    → IsGiven file (Some range) (assembly.taken_piece file key making last) (done ++ last ∷ [])
last_gives file key making last old done range at is whole right =
    taken_cases file key making last (λ joined. IsGiven file (Some range) joined all)
    (λ repeat. let no = sym repeat ∙ no_repeat file last old done [] making.making at is in cc)
    (λ fresh part. let no = sym part ∙ ap (λ (l : List Piece). pieces_spec.fills 0 (pieces_spec.in_order l)) put ∙ whole in cc)
    (λ fresh filled datagram gave. by fresh datagram (sym gave ∙ ap (λ (l : List Piece). assembly.datagram_of_whole key (assembly.packet_of file l)) put ∙ right))
  where
    all : List Piece
    all = done ++ last ∷ []

    none : (left : List Piece) → IsComing file left all [] → left ++ all ≡ all
    none [] came = refl
    none (oldest ∷ left) came = absurd (none_left oldest all whole came.old_are.0.apart came.old_are.0.other.0)

    put : pieces_spec.pieces_with last making.making ≡ all
    put = with_next file last old done [] making.making at is ∙ none (pieces_spec.left_for last old) (one_came file last old done [] is)

    by : (fresh : Bool) (datagram : Option ByteRange) → datagram ≡ Some range
        → IsGiven file (Some range) (assembly.given_with file (with_piece making last) fresh (assembly.packet_of file (pieces_spec.pieces_with last making.making)) datagram) all
    by fresh None is_some = let no = is_some in cc
    by fresh (Some other) is_some = (is_some, ap (assembly.packet_of file) put)

-- there is a next one
record Next (pieces : List Piece) : Type 0 where
  first : Piece
  rest : List Piece
  is : pieces ≡ first ∷ rest

next_of : (pieces : List Piece) (last : Piece) → Next (pieces ++ last ∷ [])
next_of [] last = record { first = last; rest = []; is = refl }
next_of (first ∷ pieces) last = record { first = first; rest = pieces ++ last ∷ []; is = refl }

all_given : (file : List ℕ) (key : FragmentKey) (range : ByteRange) (pieces : List Piece) (last : Piece) (making : Making) (old done : List Piece) → making.making ≡ old ++ done
    → IsComing file old done (pieces ++ last ∷ []) → pieces_spec.fills 0 (pieces_spec.in_order (done ++ (pieces ++ last ∷ []))) ≡ true
    → assembly.datagram_of_whole key (assembly.packet_of file (done ++ (pieces ++ last ∷ []))) ≡ Some range → sent.GiveNone file key making pieces
    → IsGiven file (Some range) (assembly.taken_piece file key (sent.behind_pieces file key making pieces) last) (done ++ (pieces ++ last ∷ []))
all_given file key range [] last making old done at is whole right none = last_gives file key making last old done range at is whole right
all_given file key range (piece ∷ pieces) last making old done at is whole right none =
    let next = next_of pieces last in
    let rest = goes_on file key making piece next.first old done (pieces ++ last ∷ []) next.rest at is next.is none.0 in
    let same = append_assoc done (piece ∷ []) (pieces ++ last ∷ []) in
    subst (IsGiven file (Some range) (assembly.taken_piece file key (sent.behind_pieces file key (assembly.taken_piece file key making piece).making pieces) last)) same
    (all_given file key range pieces last (assembly.taken_piece file key making piece).making rest.old (done ++ piece ∷ []) rest.at rest.coming_are
    (ap (λ (l : List Piece). pieces_spec.fills 0 (pieces_spec.in_order l)) same ∙ whole) (ap (λ (l : List Piece). assembly.datagram_of_whole key (assembly.packet_of file l)) same ∙ right) none.1)

old_at_first : (file : List ℕ) (pieces waiting : List Piece) → AllByRecursion (sent.IsOther file pieces) waiting → AllByRecursion (IsOld file [] pieces) waiting
old_at_first file pieces [] all = tt
old_at_first file pieces (old ∷ waiting) all = (record { other = all.0; apart = refl }, old_at_first file pieces waiting all.1)

pub packet_given : (file : List ℕ) (key : FragmentKey) (making : Making) (pieces : List Piece) (last : Piece) (range : ByteRange)
    → sent.ArePacket file making.making (pieces ++ last ∷ []) → assembly.datagram_of_whole key (assembly.packet_of file (pieces ++ last ∷ [])) ≡ Some range → sent.GiveNone file key making pieces
    → IsGiven file (Some range) (assembly.taken_piece file key (sent.behind_pieces file key making pieces) last) (pieces ++ last ∷ [])
packet_given file key making pieces last range are right none =
    all_given file key range pieces last making making.making [] (sym (append-nil making.making))
    (record { apart = are.apart; octets = are.octets; old_are = old_at_first file (pieces ++ last ∷ []) making.making are.others }) are.whole right none
