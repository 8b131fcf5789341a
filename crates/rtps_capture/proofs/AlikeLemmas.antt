-- Fragments that are kept in two places have the same octets, and so they are put together alike.
use Rattle.std.proofs.Common.{◌≡◌, ℕ, ◌+◌, Bool, true, false, List, [], ◌∷◌, ◌++◌, drop, take, refl, sym, ap, ap₂, ◌∙◌, zero, suc, arith}
use Rattle.std.specs.Prelude.{None, Option, Some, ◌==◌, ◌&&◌, ◌||◌, not, nat_lt, if◌then◌else◌, cond, count_by}
use Rattle.std.proofs.lemmas.List.{drop-append-le, length-append, length-drop, take-append-le}
use Rattle.std.proofs.lemmas.List.Sums.{sum_by_from}
use Rattle.rtps_capture.specs.Alike as alike_spec
use Rattle.rtps_capture.specs.Assembly as assembly
use Rattle.rtps_capture.specs.Pieces as pieces
use Rattle.rtps_capture.specs.Recent as recent
use Rattle.rtps_capture.specs.declared.assembly.KeyedMaking.{KeyedMaking}
use Rattle.rtps_capture.specs.declared.assembly.Making.{Making}
use Rattle.rtps_capture.specs.declared.assembly.Taken.{Taken}
use Rattle.rtps_capture.specs.declared.byte_range.ByteRange.{ByteRange}
use Rattle.rtps_capture.specs.declared.fragment.FragmentKey.{FragmentKey}
use Rattle.rtps_capture.specs.declared.layout.packet.TheConstants as packet
use Rattle.rtps_capture.specs.declared.pieces.Piece.{Piece}

same_alike : (file kept : List ℕ) (a b c d : Piece) → alike_spec.IsAlike file kept a b → alike_spec.IsAlike file kept c d → pieces.is_same file a c ≡ pieces.is_same kept b d
same_alike file kept a b c d one other = rw (one.octets, other.octets, one.start, one.end, one.more, other.start, other.end, other.more) refl

repeat_alike : (file kept : List ℕ) (a b : Piece) (ones others : List Piece) → alike_spec.IsAlike file kept a b → alike_spec.AreAlike file kept ones others → pieces.is_repeat file a ones ≡ pieces.is_repeat kept b others
repeat_alike file kept a b [] [] one all = refl
repeat_alike file kept a b [] (d ∷ others) one all = absurd all
repeat_alike file kept a b (c ∷ ones) [] one all = absurd all
repeat_alike file kept a b (c ∷ ones) (d ∷ others) one all =
    ap₂ (λ (x y : Bool). x || y) (same_alike file kept a b c d one all.0) (repeat_alike file kept a b ones others one all.1)

clash_alike : (file kept : List ℕ) (a b c d : Piece) → alike_spec.IsAlike file kept a b → alike_spec.IsAlike file kept c d → pieces.clashes a c ≡ pieces.clashes b d
clash_alike file kept a b c d one other = rw (one.start, one.end, one.more, other.start, other.end, other.more) refl

pub clashes_alike : (file kept : List ℕ) (a b : Piece) (ones others : List Piece) → alike_spec.IsAlike file kept a b → alike_spec.AreAlike file kept ones others → pieces.clashes_with ones a ≡ pieces.clashes_with others b
clashes_alike file kept a b [] [] one all = refl
clashes_alike file kept a b [] (d ∷ others) one all = absurd all
clashes_alike file kept a b (c ∷ ones) [] one all = absurd all
clashes_alike file kept a b (c ∷ ones) (d ∷ others) one all =
    ap₂ (λ (x y : Bool). x || y) (clash_alike file kept a b c d one all.0) (clashes_alike file kept a b ones others one all.1)

left_alike : (file kept : List ℕ) (a b : Piece) (ones others : List Piece) → alike_spec.IsAlike file kept a b → alike_spec.AreAlike file kept ones others → alike_spec.AreAlike file kept (pieces.left_for a ones) (pieces.left_for b others)
left_alike file kept a b [] [] one all = tt
left_alike file kept a b [] (d ∷ others) one all = absurd all
left_alike file kept a b (c ∷ ones) [] one all = absurd all
left_alike file kept a b (c ∷ ones) (d ∷ others) one all =
    rw (clashes_alike file kept a b (c ∷ ones) (d ∷ others) one all) (by (pieces.clashes_with (d ∷ others) b) (left_alike file kept a b ones others one all.1))
  where
    by : (clash : Bool) → alike_spec.AreAlike file kept (pieces.left_for a ones) (pieces.left_for b others)
        → alike_spec.AreAlike file kept (if clash then pieces.left_for a ones else c ∷ ones) (if clash then pieces.left_for b others else d ∷ others)
    by true rest = rest
    by false rest = all

pub push_alike : (file kept : List ℕ) (a b : Piece) (ones others : List Piece) → alike_spec.IsAlike file kept a b → alike_spec.AreAlike file kept ones others → alike_spec.AreAlike file kept (ones ++ a ∷ []) (others ++ b ∷ [])
push_alike file kept a b [] [] one all = (one, tt)
push_alike file kept a b [] (d ∷ others) one all = absurd all
push_alike file kept a b (c ∷ ones) [] one all = absurd all
push_alike file kept a b (c ∷ ones) (d ∷ others) one all = (all.0, push_alike file kept a b ones others one all.1)

put_alike : (file kept : List ℕ) (a b : Piece) (ones others : List Piece) → alike_spec.IsAlike file kept a b → alike_spec.AreAlike file kept ones others
    → alike_spec.AreAlike file kept (pieces.put_in_order a ones) (pieces.put_in_order b others)
put_alike file kept a b [] [] one all = (one, tt)
put_alike file kept a b [] (d ∷ others) one all = absurd all
put_alike file kept a b (c ∷ ones) [] one all = absurd all
put_alike file kept a b (c ∷ ones) (d ∷ others) one all =
    let same : nat_lt c.start a.start ≡ nat_lt d.start b.start = ap₂ nat_lt all.0.start one.start in
    rw same (by (nat_lt d.start b.start) (put_alike file kept a b ones others one all.1))
  where
    by : (behind : Bool) → alike_spec.AreAlike file kept (pieces.put_in_order a ones) (pieces.put_in_order b others)
        → alike_spec.AreAlike file kept (if behind then c ∷ pieces.put_in_order a ones else a ∷ c ∷ ones) (if behind then d ∷ pieces.put_in_order b others else b ∷ d ∷ others)
    by true rest = (all.0, rest)
    by false rest = (one, all)

order_alike : (file kept : List ℕ) (ones others : List Piece) → alike_spec.AreAlike file kept ones others → alike_spec.AreAlike file kept (pieces.in_order ones) (pieces.in_order others)
order_alike file kept [] [] all = tt
order_alike file kept [] (d ∷ others) all = absurd all
order_alike file kept (c ∷ ones) [] all = absurd all
order_alike file kept (c ∷ ones) (d ∷ others) all = put_alike file kept c d (pieces.in_order ones) (pieces.in_order others) all.0 (order_alike file kept ones others all.1)

fills_alike : (file kept : List ℕ) (at : ℕ) (ones others : List Piece) → alike_spec.AreAlike file kept ones others → pieces.fills at ones ≡ pieces.fills at others
fills_alike file kept at [] [] all = refl
fills_alike file kept at [] (d ∷ others) all = absurd all
fills_alike file kept at (c ∷ ones) [] all = absurd all
fills_alike file kept at (c ∷ []) (d ∷ []) all = rw (all.0.start, all.0.more) refl
fills_alike file kept at (c ∷ []) (d ∷ f ∷ others) all = absurd all.1
fills_alike file kept at (c ∷ e ∷ ones) (d ∷ []) all = absurd all.1
fills_alike file kept at (c ∷ e ∷ ones) (d ∷ f ∷ others) all =
    ap₂ (λ (x y : Bool). x && y) (ap (λ (n : ℕ). n == at) all.0.start) (ap (λ (n : ℕ). pieces.fills n (e ∷ ones)) all.0.end ∙ fills_alike file kept d.end (e ∷ ones) (f ∷ others) all.1)

joined_alike : (file kept : List ℕ) (ones others : List Piece) → alike_spec.AreAlike file kept ones others → pieces.joined file ones ≡ pieces.joined kept others
joined_alike file kept [] [] all = refl
joined_alike file kept [] (d ∷ others) all = absurd all
joined_alike file kept (c ∷ ones) [] all = absurd all
joined_alike file kept (c ∷ ones) (d ∷ others) all = ap₂ (λ (x y : List ℕ). x ++ y) all.0.octets (joined_alike file kept ones others all.1)

count_alike : (file kept : List ℕ) (one other : Making) (ones others : List Piece) → alike_spec.AreMakings file kept one other → alike_spec.AreAlike file kept ones others
    → count_by (assembly.is_new file one) ones ≡ count_by (assembly.is_new kept other) others
count_alike file kept one other [] [] makings all = refl
count_alike file kept one other [] (d ∷ others) makings all = absurd all
count_alike file kept one other (c ∷ ones) [] makings all = absurd all
count_alike file kept one other (c ∷ ones) (d ∷ others) makings all =
    sum_by_from (λ piece. cond (assembly.is_new file one piece) 1 0) (0 + cond (assembly.is_new file one c) 1 0) ones
    ∙ ap₂ (λ (x : Bool) (n : ℕ). 0 + cond (not x) 1 0 + n) (repeat_alike file kept c d one.given other.given all.0 makings.given) (count_alike file kept one other ones others makings all.1)
    ∙ sym (sum_by_from (λ piece. cond (assembly.is_new kept other piece) 1 0) (0 + cond (assembly.is_new kept other d) 1 0) others)

dropped_alike : (file kept : List ℕ) (ones others : List Piece) → alike_spec.AreAlike file kept ones others → alike_spec.AreAlike file kept (drop 1 ones) (drop 1 others)
dropped_alike file kept [] [] all = tt
dropped_alike file kept [] (d ∷ others) all = absurd all
dropped_alike file kept (c ∷ ones) [] all = absurd all
dropped_alike file kept (c ∷ ones) (d ∷ others) all = all.1

-- what one fragment more gives and leaves
pub record AreJoined (file kept : List ℕ) (one other : assembly.Joined) : Type 0 where
  pub making : alike_spec.AreMakings file kept one.making other.making
  pub packet : one.packet ≡ other.packet
  pub taken : one.taken ≡ other.taken

given_with_alike : (file kept : List ℕ) (one other : Making) (fresh : Bool) (packet : List ℕ) (datagram : Option ByteRange) → alike_spec.AreMakings file kept one other
    → AreJoined file kept (assembly.given_with file one fresh packet datagram) (assembly.given_with kept other fresh packet datagram)
given_with_alike file kept one other fresh packet None makings =
    record { making = record { making = dropped_alike file kept one.making other.making makings.making; given = makings.given }; packet = refl; taken = refl }
given_with_alike file kept one other fresh packet (Some range) makings = record {
  making = record { making = tt; given = makings.making };
  packet = refl;
  taken =
      ap (λ (n : ℕ). let taken : Taken = record { fresh = fresh; settled = n; datagram = Some range } in taken)
      (count_alike file kept one other one.making other.making makings makings.making);
}

given_alike : (file kept : List ℕ) (key : FragmentKey) (one other : Making) (fresh : Bool) → alike_spec.AreMakings file kept one other
    → AreJoined file kept (assembly.given file key one fresh) (assembly.given kept key other fresh)
unfolding assembly.given
given_alike file kept key one other fresh makings =
    let packet : assembly.packet_of file one.making ≡ assembly.packet_of kept other.making =
    joined_alike file kept (pieces.in_order one.making) (pieces.in_order other.making) (order_alike file kept one.making other.making makings.making) in
    rw packet (given_with_alike file kept one other fresh (assembly.packet_of kept other.making) (assembly.datagram_of_whole key (assembly.packet_of kept other.making)) makings)

joined_with_alike : (file kept : List ℕ) (key : FragmentKey) (one other : Making) (fresh : Bool) → alike_spec.AreMakings file kept one other
    → AreJoined file kept (assembly.joined_with file key one fresh) (assembly.joined_with kept key other fresh)
joined_with_alike file kept key one other fresh makings =
    rw (fills_alike file kept 0 (pieces.in_order one.making) (pieces.in_order other.making) (order_alike file kept one.making other.making makings.making)) (by (pieces.fills 0 (pieces.in_order other.making)))
  where
    by : (whole : Bool) → AreJoined file kept (if whole then assembly.given file key one fresh else assembly.gives_none one fresh) (if whole then assembly.given kept key other fresh else assembly.gives_none other fresh)
    by true = given_alike file kept key one other fresh makings
    by false = record { making = makings; packet = refl; taken = refl }

pub taken_alike : (file kept : List ℕ) (key : FragmentKey) (one other : Making) (a b : Piece) → alike_spec.AreMakings file kept one other → alike_spec.IsAlike file kept a b
    → AreJoined file kept (assembly.taken_piece file key one a) (assembly.taken_piece kept key other b)
unfolding assembly.taken_piece
taken_alike file kept key one other a b makings alike =
    let seen = repeat_alike file kept a b one.making other.making alike makings.making in
    let fresh : assembly.is_new file one a ≡ assembly.is_new kept other b = ap not (repeat_alike file kept a b one.given other.given alike makings.given) in
    rw (seen, fresh) (by (pieces.is_repeat kept b other.making))
  where
    more : Making
    more = record { making = pieces.pieces_with a one.making; given = one.given }

    others : Making
    others = record { making = pieces.pieces_with b other.making; given = other.given }

    all : alike_spec.AreMakings file kept more others
    all = record {
      making = push_alike file kept a b (pieces.left_for a one.making) (pieces.left_for b other.making) alike (left_alike file kept a b one.making other.making alike makings.making);
      given = makings.given;
    }

    by : (seen : Bool) → AreJoined file kept (if seen then assembly.gives_none one false else assembly.joined_with file key more (assembly.is_new kept other b)) (if seen then assembly.gives_none other false else assembly.joined_with kept key others (assembly.is_new kept other b))
    by true = record { making = makings; packet = refl; taken = refl }
    by false = joined_with_alike file kept key more others (assembly.is_new kept other b) all

-- with more octets kept behind
one_grown : (file kept more : List ℕ) (a b : Piece) → alike_spec.IsAlike file kept a b → alike_spec.IsAlike file (kept ++ more) a b
one_grown file kept more a b alike =
    let octets : pieces.piece_octets (kept ++ more) b ≡ pieces.piece_octets kept b =
    ap (take (pieces.piece_size b)) (drop-append-le b.at kept more (omega (arith, alike.within))) ∙ take-append-le (pieces.piece_size b) (drop b.at kept) more (omega (arith, alike.within, length-drop b.at kept)) in
    record {
      start = alike.start;
      end = alike.end;
      more = alike.more;
      octets = alike.octets ∙ sym octets;
      within = omega (arith, alike.within, length-append kept more);
    }

pub grown : (file kept more : List ℕ) (ones others : List Piece) → alike_spec.AreAlike file kept ones others → alike_spec.AreAlike file (kept ++ more) ones others
grown file kept more [] [] all = tt
grown file kept more [] (d ∷ others) all = absurd all
grown file kept more (c ∷ ones) [] all = absurd all
grown file kept more (c ∷ ones) (d ∷ others) all = (one_grown file kept more c d all.0, grown file kept more ones others all.1)

pub keyed_grown : (file kept more : List ℕ) (ones others : List KeyedMaking) → alike_spec.AreKeyed file kept ones others → alike_spec.AreKeyed file (kept ++ more) ones others
keyed_grown file kept more [] [] all = tt
keyed_grown file kept more [] (d ∷ others) all = absurd all
keyed_grown file kept more (c ∷ ones) [] all = absurd all
keyed_grown file kept more (c ∷ ones) (d ∷ others) all = (
  all.0,
  record { making = grown file kept more c.making.making d.making.making all.1.making; given = grown file kept more c.making.given d.making.given all.1.given },
  keyed_grown file kept more ones others all.2,
)

pub making_alike : (file kept : List ℕ) (identification : ℕ) (ones others : List KeyedMaking) → alike_spec.AreKeyed file kept ones others
    → alike_spec.AreMakings file kept (recent.making_in ones identification) (recent.making_in others identification)
making_alike file kept identification [] [] all = record { making = tt; given = tt }
making_alike file kept identification [] (d ∷ others) all = absurd all
making_alike file kept identification (c ∷ ones) [] all = absurd all
making_alike file kept identification (c ∷ ones) (d ∷ others) all = rw all.0 (by (d.identification == identification) (making_alike file kept identification ones others all.2))
  where
    by : (here : Bool) → alike_spec.AreMakings file kept (recent.making_in ones identification) (recent.making_in others identification)
        → alike_spec.AreMakings file kept (if here then c.making else recent.making_in ones identification) (if here then d.making else recent.making_in others identification)
    by true rest = all.1
    by false rest = rest

without_alike : (file kept : List ℕ) (identification : ℕ) (ones others : List KeyedMaking) → alike_spec.AreKeyed file kept ones others
    → alike_spec.AreKeyed file kept (recent.without (recent.is_of identification) ones) (recent.without (recent.is_of identification) others)
without_alike file kept identification [] [] all = tt
without_alike file kept identification [] (d ∷ others) all = absurd all
without_alike file kept identification (c ∷ ones) [] all = absurd all
without_alike file kept identification (c ∷ ones) (d ∷ others) all =
    let same : (c.identification == identification) ≡ (d.identification == identification) = ap (λ (n : ℕ). n == identification) all.0 in
    rw same (by (d.identification == identification) (without_alike file kept identification ones others all.2))
  where
    by : (here : Bool) → alike_spec.AreKeyed file kept (recent.without (recent.is_of identification) ones) (recent.without (recent.is_of identification) others)
        → alike_spec.AreKeyed file kept (if here then ones else c ∷ recent.without (recent.is_of identification) ones) (if here then others else d ∷ recent.without (recent.is_of identification) others)
    by true rest = all.2
    by false rest = (all.0, all.1, rest)

take_alike : (file kept : List ℕ) (n : ℕ) (ones others : List KeyedMaking) → alike_spec.AreKeyed file kept ones others → alike_spec.AreKeyed file kept (take n ones) (take n others)
take_alike file kept zero ones others all = tt
take_alike file kept (suc n) [] [] all = tt
take_alike file kept (suc n) [] (d ∷ others) all = absurd all
take_alike file kept (suc n) (c ∷ ones) [] all = absurd all
take_alike file kept (suc n) (c ∷ ones) (d ∷ others) all = (all.0, all.1, take_alike file kept n ones others all.2)

pub recent_alike : (file kept : List ℕ) (identification : ℕ) (one other : Making) (ones others : List KeyedMaking) → alike_spec.AreMakings file kept one other → alike_spec.AreKeyed file kept ones others
    → alike_spec.AreKeyed file kept (recent.recent_with identification one ones) (recent.recent_with identification other others)
recent_alike file kept identification one other ones others makings all =
    take_alike file kept packet.MOST_KEPT (record { identification = identification; making = one } ∷ recent.without (recent.is_of identification) ones)
    (record { identification = identification; making = other } ∷ recent.without (recent.is_of identification) others) (refl, makings, without_alike file kept identification ones others all)
