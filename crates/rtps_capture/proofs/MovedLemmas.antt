-- Fragments that are put elsewhere, one after another: those of a packet are apart, so that they are put together again.
use Rattle.std.proofs.Common.{◌≡◌, ℕ, ◌+◌, ◌≤◌, Bool, true, false, List, [], ◌∷◌, ◌++◌, length, drop, take, refl, sym, ap, ap₂, subst, ◌∙◌, append_assoc, append-nil, arith}
use Rattle.std.specs.Prelude.{None, Option, Some, ◌||◌, cond, nat_lt, if◌then◌else◌}
use Rattle.std.specs.BTreeMap.{BTreeMap, Updates, get}
use Rattle.std.specs.List.{AllByRecursion}
use Rattle.std.specs.Ordering.{is_eq}
use Rattle.std.proofs.lemmas.List.{drop_at, length-append, length-drop, length-take-le, take-take}
use Rattle.rtps_capture.specs.Alike as alike
use Rattle.rtps_capture.specs.Pieces as pieces_spec
use Rattle.rtps_capture.specs.Recent as recent_spec
use Rattle.rtps_capture.specs.declared.assembly.KeyedMaking.{KeyedMaking}
use Rattle.rtps_capture.specs.declared.assembly.Making.{Making}
use Rattle.rtps_capture.specs.declared.assembly.RecentMakings.{RecentMakings}
use Rattle.rtps_capture.specs.declared.fragment.FragmentHosts.{FragmentHosts}
use Rattle.rtps_capture.specs.declared.pieces.Piece.{Piece}
use Rattle.rtps_capture.proofs.AlikeLemmas.{clashes_alike, grown, keyed_grown, push_alike}
use Rattle.rtps_capture.proofs.GivenLemmas.{clash-sym}
use Rattle.rtps_capture.proofs.KeptLemmas.{order_from_put}
use Rattle.rtps_capture.proofs.PieceLemmas.{all_from_put, apart_before, apart_behind}
use Rattle.rtps_capture.proofs.RecentLemmas.{hosts_same}
use Rattle.rtps_capture.proofs.SettledLemmas.{keyed_left, left_grown}

all_apart : (piece : Piece) (pieces : List Piece) → AllByRecursion (λ next. pieces_spec.stands_before piece next ≡ true) pieces → AllByRecursion (λ other. pieces_spec.clashes piece other ≡ false) pieces
all_apart piece [] all = tt
all_apart piece (other ∷ pieces) all = (apart_before piece other all.0, all_apart piece pieces all.1)

put_apart : (piece : Piece) (pieces : List Piece) → pieces_spec.IsInOrder (pieces_spec.put_in_order piece pieces) → AllByRecursion (λ other. pieces_spec.clashes piece other ≡ false) pieces
put_apart piece [] order = tt
put_apart piece (first ∷ pieces) order = by (nat_lt first.start piece.start) order (put_apart piece pieces)
  where
    by : (behind : Bool) → pieces_spec.IsInOrder (if behind then first ∷ pieces_spec.put_in_order piece pieces else piece ∷ first ∷ pieces)
        → (pieces_spec.IsInOrder (pieces_spec.put_in_order piece pieces) → AllByRecursion (λ other. pieces_spec.clashes piece other ≡ false) pieces) → AllByRecursion (λ other. pieces_spec.clashes piece other ≡ false) (first ∷ pieces)
    by true order rest = (apart_behind piece first (all_from_put (λ next. pieces_spec.stands_before first next ≡ true) piece pieces order.0).0, rest order.1)
    by false order rest = all_apart piece (first ∷ pieces) order.0

all_unordered : (P : Piece → Type 0) (pieces : List Piece) → AllByRecursion P (pieces_spec.in_order pieces) → AllByRecursion P pieces
all_unordered P [] all = tt
all_unordered P (piece ∷ pieces) all = let both = all_from_put P piece (pieces_spec.in_order pieces) all in (both.0, all_unordered P pieces both.1)

one_of : (P : Piece → Type 0) (before : List Piece) (piece : Piece) (behind : List Piece) → AllByRecursion P (before ++ piece ∷ behind) → P piece
one_of P [] piece behind all = all.0
one_of P (first ∷ before) piece behind all = one_of P before piece behind all.1

-- a piece of a packet clashes with none that came before it
pub none_clash : (before : List Piece) (piece : Piece) (behind : List Piece) → pieces_spec.IsInOrder (pieces_spec.in_order (before ++ piece ∷ behind)) → pieces_spec.clashes_with before piece ≡ false
none_clash [] piece behind order = refl
none_clash (first ∷ before) piece behind order =
    let rest = before ++ piece ∷ behind in
    let apart = all_unordered (λ other. pieces_spec.clashes first other ≡ false) rest (put_apart first (pieces_spec.in_order rest) order) in
    ap₂ (λ (a b : Bool). a || b) (clash-sym piece first ∙ one_of (λ other. pieces_spec.clashes first other ≡ false) before piece behind apart)
    (none_clash before piece behind (order_from_put first (pieces_spec.in_order rest) order))

-- a piece that stands there, and the same one with its octets behind those of another place
pub one_moved : (from to : List ℕ) (piece : Piece) → piece.at + pieces_spec.piece_size piece ≤ length from
    → alike.IsAlike from (to ++ pieces_spec.piece_octets from piece) piece (record piece { at = length to }) × alike.IsAlike (to ++ pieces_spec.piece_octets from piece) from (record piece { at = length to }) piece
one_moved from to piece within =
    let size = pieces_spec.piece_size piece in
    let octets = pieces_spec.piece_octets from piece in
    let there : pieces_spec.piece_octets (to ++ octets) (record piece { at = length to }) ≡ octets =
    ap (take size) (drop_at to octets (length to) refl) ∙ take-take size size (drop piece.at from) (omega arith) in
    let many : length octets ≡ size = length-take-le size (drop piece.at from) (omega (arith, within, length-drop piece.at from)) in (
      record { start = refl; end = refl; more = refl; octets = sym there; within = omega (arith, length-append to octets, many) },
      record { start = refl; end = refl; more = refl; octets = there; within = within },
    )

-- the pieces that were put elsewhere so far, and those that are still to come
pub record PutSo (from old to : List ℕ) (all put left : List Piece) : Type 0 where
  pub done : List Piece
  pub split : done ++ left ≡ all
  pub moved : alike.AreMoved from to done put
  pub behind : alike.GrowsTo old to

pub none_put : (from to : List ℕ) (all : List Piece) → PutSo from to to all [] all
none_put from to all = record { done = []; split = refl; moved = (tt, tt); behind = ([], sym (append-nil to)) }

grows_on : (old to more : List ℕ) → alike.GrowsTo old to → alike.GrowsTo old (to ++ more)
grows_on old to more grows = (grows.0 ++ more, ap (λ (l : List ℕ). l ++ more) grows.1 ∙ append_assoc old grows.0 more)

moved_grown : (from to more : List ℕ) (ones others : List Piece) → alike.AreMoved from to ones others → alike.AreMoved from (to ++ more) ones others
moved_grown from to more ones others moved = (grown from to more ones others moved.0, left_grown to from more others ones (moved.1, moved.0))

-- the next piece clashes with none that was put
pub put_clashes : (from old to : List ℕ) (all put : List Piece) (piece : Piece) (left : List Piece) → PutSo from old to all put (piece ∷ left) → pieces_spec.IsInOrder (pieces_spec.in_order all)
    → piece.at + pieces_spec.piece_size piece ≤ length from → pieces_spec.clashes_with put (record piece { at = length to }) ≡ false
put_clashes from old to all put piece left so order within =
    let octets = pieces_spec.piece_octets from piece in
    sym (clashes_alike from (to ++ octets) piece (record piece { at = length to }) so.done put (one_moved from to piece within).0 (moved_grown from to octets so.done put so.moved).0)
    ∙ none_clash so.done piece left (subst (λ (l : List Piece). pieces_spec.IsInOrder (pieces_spec.in_order l)) (sym so.split) order)

-- it was put behind them
pub one_put : (from old to : List ℕ) (all put : List Piece) (piece : Piece) (left : List Piece) → PutSo from old to all put (piece ∷ left)
    → piece.at + pieces_spec.piece_size piece ≤ length from → PutSo from old (to ++ pieces_spec.piece_octets from piece) all (put ++ record piece { at = length to } ∷ []) left
one_put from old to all put piece left so within =
    let octets = pieces_spec.piece_octets from piece in
    let one = one_moved from to piece within in
    let others = moved_grown from to octets so.done put so.moved in
    let other : Piece = record piece { at = length to } in
    record {
      done = so.done ++ piece ∷ [];
      split = append_assoc so.done (piece ∷ []) left ∙ so.split;
      moved = (
        push_alike from (to ++ octets) piece other so.done put one.0 others.0,
        push_alike (to ++ octets) from other piece put so.done one.1 others.1,
      );
      behind = grows_on old to octets so.behind;
    }

-- the same, of what was put there by such steps
pub put_apart_so : (from old to : List ℕ) (all put : List Piece) (piece other : Piece) (left : List Piece) → PutSo from old to all put (piece ∷ left) → pieces_spec.IsInOrder (pieces_spec.in_order all)
    → piece.at + pieces_spec.piece_size piece ≤ length from → other ≡ record piece { at = length to } → pieces_spec.clashes_with put other ≡ false
put_apart_so from old to all put piece other left so order within is = ap (pieces_spec.clashes_with put) is ∙ put_clashes from old to all put piece left so order within

pub one_put_so : (from old to next : List ℕ) (all put after : List Piece) (piece other : Piece) (left : List Piece) → PutSo from old to all put (piece ∷ left)
    → piece.at + pieces_spec.piece_size piece ≤ length from → other ≡ record piece { at = length to } → next ≡ to ++ pieces_spec.piece_octets from piece → after ≡ put ++ other ∷ [] → PutSo from old next all after left
one_put_so from old to next all put after piece other left so within is grown_to pushed_to =
    subst (λ (l : List ℕ). PutSo from old l all after left) (sym grown_to)
    (subst (λ (l : List Piece). PutSo from old (to ++ pieces_spec.piece_octets from piece) all l left) (sym (pushed_to ∙ ap (λ (p : Piece). put ++ p ∷ []) is)) (one_put from old to all put piece left so within))

pub all_put : (from old to : List ℕ) (all put : List Piece) → PutSo from old to all put [] → alike.AreMoved from to all put
all_put from old to all put so = subst (λ (l : List Piece). alike.AreMoved from to l put) (sym (append-nil so.done) ∙ so.split) so.moved

-- a packet in the making, and the last one given
pub making_moved : (from between to : List ℕ) (one other : Making) → alike.AreMoved from between one.making other.making → alike.GrowsTo between to → alike.AreMoved from to one.given other.given
    → alike.MakingIsMoved from to one other
making_moved from between to one other making grows given =
    let first = subst (λ (l : List ℕ). alike.AreMoved from l one.making other.making) (sym grows.1) (moved_grown from between grows.0 one.making other.making making) in
    (record { making = first.0; given = given.0 }, record { making = first.1; given = given.1 })

pub grows_twice : (old between new : List ℕ) → alike.GrowsTo old between → alike.GrowsTo between new → alike.GrowsTo old new
grows_twice old between new first second = subst (alike.GrowsTo old) (sym second.1) (grows_on old between second.0 first)

-- the keys of two hosts that were put elsewhere so far
pub record KeysPutSo (from old to : List ℕ) (all put left : List KeyedMaking) : Type 0 where
  pub done : List KeyedMaking
  pub split : done ++ left ≡ all
  pub moved : alike.KeysAreMoved from to done put
  pub behind : alike.GrowsTo old to

pub no_key_put : (from to : List ℕ) (all : List KeyedMaking) → KeysPutSo from to to all [] all
no_key_put from to all = record { done = []; split = refl; moved = (tt, tt); behind = ([], sym (append-nil to)) }

key_pushed : (from to : List ℕ) (ones others : List KeyedMaking) (one other : KeyedMaking) → alike.AreKeyed from to ones others → one.identification ≡ other.identification
    → alike.AreMakings from to one.making other.making → alike.AreKeyed from to (ones ++ one ∷ []) (others ++ other ∷ [])
key_pushed from to [] [] one other all same makings = (same, makings, tt)
key_pushed from to [] (d ∷ others) one other all same makings = absurd all
key_pushed from to (c ∷ ones) [] one other all same makings = absurd all
key_pushed from to (c ∷ ones) (d ∷ others) one other all same makings = (all.0, all.1, key_pushed from to ones others one other all.2 same makings)

keys_grown : (from to more : List ℕ) (ones others : List KeyedMaking) → alike.KeysAreMoved from to ones others → alike.KeysAreMoved from (to ++ more) ones others
keys_grown from to more ones others moved = (keyed_grown from to more ones others moved.0, keyed_left to from more others ones (moved.1, moved.0))

pub one_key_put : (from old to new : List ℕ) (all put : List KeyedMaking) (one other : KeyedMaking) (left : List KeyedMaking) → KeysPutSo from old to all put (one ∷ left) → alike.GrowsTo to new
    → one.identification ≡ other.identification → alike.MakingIsMoved from new one.making other.making → KeysPutSo from old new all (put ++ other ∷ []) left
one_key_put from old to new all put one other left so grows same makings =
    let others = subst (λ (l : List ℕ). alike.KeysAreMoved from l so.done put) (sym grows.1) (keys_grown from to grows.0 so.done put so.moved) in
    record {
      done = so.done ++ one ∷ [];
      split = append_assoc so.done (one ∷ []) left ∙ so.split;
      moved = (key_pushed from new so.done put one other others.0 same makings.0, key_pushed new from put so.done other one others.1 (sym same) makings.1);
      behind = grows_twice old to new so.behind grows;
    }

pub all_keys_put : (from old to : List ℕ) (all put : List KeyedMaking) → KeysPutSo from old to all put [] → alike.KeysAreMoved from to all put
all_keys_put from old to all put so = subst (λ (l : List KeyedMaking). alike.KeysAreMoved from to l put) (sym (append-nil so.done) ∙ so.split) so.moved

-- hosts whose keys were put elsewhere, or are still to come
abbrev pub HostsPutSo : List ℕ → List ℕ → Option RecentMakings → Option RecentMakings → Option RecentMakings → Type 0
HostsPutSo from to all (Some recent) put = all ≡ Some recent
HostsPutSo from to all None put = alike.KeysAreMoved from to (recent_spec.recent_in all) (recent_spec.recent_in put)

abbrev pub AllPutSo : List ℕ → List ℕ → BTreeMap FragmentHosts RecentMakings → BTreeMap FragmentHosts RecentMakings → BTreeMap FragmentHosts RecentMakings → Type 0
AllPutSo from to all left put = (hosts : FragmentHosts) → HostsPutSo from to (get recent_spec.hosts_cmp all hosts) (get recent_spec.hosts_cmp left hosts) (get recent_spec.hosts_cmp put hosts)

pub no_hosts_put : (from to : List ℕ) (all put : BTreeMap FragmentHosts RecentMakings) → ((hosts : FragmentHosts) → recent_spec.recent_of put hosts ≡ []) → AllPutSo from to all all put
no_hosts_put from to all put none = λ hosts. by hosts (get recent_spec.hosts_cmp all hosts) refl
  where
    by : (hosts : FragmentHosts) (there : Option RecentMakings) → get recent_spec.hosts_cmp all hosts ≡ there → HostsPutSo from to there there (get recent_spec.hosts_cmp put hosts)
    by hosts (Some recent) is = refl
    by hosts None is = rw (none hosts) (tt, tt)

pub hosts_put : (from to new : List ℕ) (all left rest put after : BTreeMap FragmentHosts RecentMakings) (hosts : FragmentHosts) (recent moved : RecentMakings) → AllPutSo from to all left put
    → alike.GrowsTo to new → get recent_spec.hosts_cmp left hosts ≡ Some recent → Updates recent_spec.hosts_cmp left rest hosts None → Updates recent_spec.hosts_cmp put after hosts (Some moved)
    → alike.KeysAreMoved from new recent.makings.items moved.makings.items → AllPutSo from new all rest after
hosts_put from to new all left rest put after hosts recent moved so grows there leaves enters keys =
    λ other. rw (leaves.0 other, enters.0 other) (by other (is_eq (recent_spec.hosts_cmp hosts other)) refl (get recent_spec.hosts_cmp left other) refl (so other))
  where
    by : (other : FragmentHosts) (here : Bool) → is_eq (recent_spec.hosts_cmp hosts other) ≡ here → (mine : Option RecentMakings) → get recent_spec.hosts_cmp left other ≡ mine
        → HostsPutSo from to (get recent_spec.hosts_cmp all other) mine (get recent_spec.hosts_cmp put other)
        → HostsPutSo from new (get recent_spec.hosts_cmp all other) (cond here None mine) (cond here (Some moved) (get recent_spec.hosts_cmp put other))
    by other true is mine there_is was =
        let same = hosts_same hosts other is in
        let of : mine ≡ Some recent = sym there_is ∙ ap (get recent_spec.hosts_cmp left) (sym same) ∙ there in
        let all_is : get recent_spec.hosts_cmp all other ≡ Some recent = subst (λ (o : Option RecentMakings). HostsPutSo from to (get recent_spec.hosts_cmp all other) o (get recent_spec.hosts_cmp put other)) of was in
        rw all_is keys
    by other false is (Some one) there_is was = was
    by other false is None there_is was =
        subst (λ (l : List ℕ). alike.KeysAreMoved from l (recent_spec.recent_in (get recent_spec.hosts_cmp all other)) (recent_spec.recent_in (get recent_spec.hosts_cmp put other))) (sym grows.1)
        (keys_grown from to grows.0 (recent_spec.recent_in (get recent_spec.hosts_cmp all other)) (recent_spec.recent_in (get recent_spec.hosts_cmp put other)) was)

pub all_hosts_put : (from to : List ℕ) (all left put : BTreeMap FragmentHosts RecentMakings) → AllPutSo from to all left put → left.entries ≡ []
    → (hosts : FragmentHosts) → alike.KeysAreMoved from to (recent_spec.recent_of all hosts) (recent_spec.recent_of put hosts)
all_hosts_put from to all left put so none hosts =
    let empty : get recent_spec.hosts_cmp left hosts ≡ None = rw none refl in
    subst (λ (o : Option RecentMakings). HostsPutSo from to (get recent_spec.hosts_cmp all hosts) o (get recent_spec.hosts_cmp put hosts)) empty (so hosts)
