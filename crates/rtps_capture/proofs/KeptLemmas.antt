-- The pieces of a packet by the places where they begin, with one more and without the oldest; and whether they have all octets.
use Rattle.std.proofs.Common.{◌≡◌, ℕ, zero, suc, ◌+◌, ◌-◌, ◌<◌, ◌≤◌, ◌^◌, Bool, true, false, List, [], ◌∷◌, ◌++◌, cond, length, map, get_or, refl, sym, ap, ap₂, subst, ◌∙◌, arith}
use Rattle.std.specs.Prelude.{Some, ◌&&◌, not, nat_lt, nat_eq, if◌then◌else◌}
use Rattle.std.specs.BTreeMap.{BTreeMap, insert_entry, is_at}
use Rattle.std.specs.List.{AllByRecursion, slice_get}
use Rattle.std.specs.Map.{remove_entry, values_of}
use Rattle.std.specs.Ordering.{match_ordering, nat_cmp}
use Rattle.std.specs.declared.cmp.Ordering.TheVariants.{Less, Equal, Greater}
use Rattle.std.proofs.lemmas.Bool.Decides.{nat_tests}
use Rattle.std.proofs.lemmas.List.{length-map}
use Rattle.rtps_capture.specs.Pieces as pieces_spec
use Rattle.rtps_capture.specs.declared.pieces.Piece.{Piece}
use Rattle.rtps_capture.proofs.PieceLemmas.{all_from_put, all_put, any-in_order, before, before-trans, in_order-push, none_pass, sizes-put, stands_other, stands_so, starts_differ}
use Rattle.rtps_capture.proofs.FoundLemmas.{key_is}

pub same_kept : (pieces others : List Piece) (old new : BTreeMap ℕ Piece) (held : ℕ) → others ≡ pieces → new.entries ≡ old.entries → pieces_spec.AreKept pieces old held → pieces_spec.AreKept others new held
same_kept pieces others old new held same entries kept =
    subst (λ (l : List Piece). pieces_spec.AreKept l new held) (sym same) (record { ordered = kept.ordered; small = kept.small; placed_are = entries ∙ kept.placed_are; held_is = kept.held_is })

-- the pieces without the oldest
pub order_from_put : (piece : Piece) (pieces : List Piece) → pieces_spec.IsInOrder (pieces_spec.put_in_order piece pieces) → pieces_spec.IsInOrder pieces
order_from_put piece [] order = tt
order_from_put piece (first ∷ pieces) order = by (nat_lt first.start piece.start) order (order_from_put piece pieces)
  where
    by : (less : Bool) → pieces_spec.IsInOrder (if less then first ∷ pieces_spec.put_in_order piece pieces else piece ∷ first ∷ pieces) → (pieces_spec.IsInOrder (pieces_spec.put_in_order piece pieces) → pieces_spec.IsInOrder pieces)
        → pieces_spec.IsInOrder (first ∷ pieces)
    by true is rest = ((all_from_put (λ next. pieces_spec.stands_before first next ≡ true) piece pieces is.0).1, rest is.1)
    by false is rest = is.1

remove-put : (piece : Piece) (pieces : List Piece) → remove_entry (is_at (nat_cmp piece.start)) (map pieces_spec.placed (pieces_spec.put_in_order piece pieces)) ≡ map pieces_spec.placed pieces
remove-put piece [] =
    let same : nat_eq piece.start piece.start ≡ true = grind (arith, nat_tests) in
    let none : List (ℕ × Piece) = [] in ap (λ (b : Bool). cond b none (pieces_spec.placed piece ∷ none)) (key_is piece.start piece.start ∙ same)
remove-put piece (first ∷ pieces) = by (nat_lt first.start piece.start) refl (remove-put piece pieces)
  where
    by : (less : Bool) → nat_lt first.start piece.start ≡ less → remove_entry (is_at (nat_cmp piece.start)) (map pieces_spec.placed (pieces_spec.put_in_order piece pieces)) ≡ map pieces_spec.placed pieces
        → remove_entry (is_at (nat_cmp piece.start)) (map pieces_spec.placed (if less then first ∷ pieces_spec.put_in_order piece pieces else piece ∷ first ∷ pieces)) ≡ map pieces_spec.placed (first ∷ pieces)
    by true less rest =
        let other : nat_eq piece.start first.start ≡ false = grind (arith, nat_tests) in
        ap₂ (λ (b : Bool) (l : List (ℕ × Piece)). cond b (map pieces_spec.placed (pieces_spec.put_in_order piece pieces)) (pieces_spec.placed first ∷ l)) (key_is piece.start first.start ∙ other) rest
    by false more rest =
        let same : nat_eq piece.start piece.start ≡ true = grind (arith, nat_tests) in
        ap (λ (b : Bool). cond b (map pieces_spec.placed (first ∷ pieces)) (pieces_spec.placed piece ∷ remove_entry (is_at (nat_cmp piece.start)) (map pieces_spec.placed (first ∷ pieces)))) (key_is piece.start piece.start ∙ same)

pub record Dropped (oldest : Piece) (pieces : List Piece) (by_place : BTreeMap ℕ Piece) (held : ℕ) : Type 0 where
  pub within : pieces_spec.piece_size oldest ≤ held
  pub ordered : oldest.start ≤ oldest.end
  pub kept : pieces_spec.AreKept pieces by_place (held - pieces_spec.piece_size oldest)

pub dropped : (oldest : Piece) (pieces : List Piece) (old new : BTreeMap ℕ Piece) (held : ℕ) → pieces_spec.AreKept (oldest ∷ pieces) old held
    → new.entries ≡ remove_entry (is_at (nat_cmp oldest.start)) old.entries → Dropped oldest pieces new held
dropped oldest pieces old new held kept entries =
    let rest = pieces_spec.in_order pieces in
    let small = all_from_put pieces_spec.IsSmall oldest rest kept.small in
    let size = sizes-put oldest rest in record {
      within = omega (arith, size, kept.held_is);
      ordered = small.0.0;
      kept = record {
        ordered = order_from_put oldest rest kept.ordered;
        small = small.1;
        placed_are = entries ∙ ap (remove_entry (is_at (nat_cmp oldest.start))) kept.placed_are ∙ remove-put oldest rest;
        held_is = omega (arith, size, kept.held_is);
      };
    }

-- the pieces with a new one
before_all : (piece first : Piece) (pieces : List Piece) → pieces_spec.IsSmall first → pieces_spec.stands_before piece first ≡ true → AllByRecursion (λ next. pieces_spec.stands_before first next ≡ true) pieces
    → AllByRecursion (λ next. pieces_spec.stands_before piece next ≡ true) pieces
before_all piece first [] small is all = tt
before_all piece first (next ∷ pieces) small is all = (before-trans piece first next small is all.0, before_all piece first pieces small is all.1)

order_put : (piece : Piece) (pieces : List Piece) → AllByRecursion pieces_spec.IsSmall pieces → AllByRecursion (λ other. pieces_spec.clashes piece other ≡ false) pieces → pieces_spec.IsInOrder pieces
    → pieces_spec.IsInOrder (pieces_spec.put_in_order piece pieces)
order_put piece [] small apart order = (tt, tt)
order_put piece (first ∷ pieces) small apart order = by (nat_lt first.start piece.start) refl (order_put piece pieces small.1 apart.1 order.1)
  where
    by : (less : Bool) → nat_lt first.start piece.start ≡ less → pieces_spec.IsInOrder (pieces_spec.put_in_order piece pieces)
        → pieces_spec.IsInOrder (if less then first ∷ pieces_spec.put_in_order piece pieces else piece ∷ first ∷ pieces)
    by true less rest =
        let stands = stands_so piece first apart.0 (grind (arith, nat_tests)) in (all_put (λ next. pieces_spec.stands_before first next ≡ true) piece pieces stands order.0, rest)
    by false more rest =
        let stands = stands_other piece first apart.0 (grind (arith, nat_tests)) in ((stands, before_all piece first pieces small.0 stands order.0), order)

insert-put : (piece : Piece) (pieces : List Piece) → AllByRecursion (λ other. pieces_spec.clashes piece other ≡ false) pieces
    → insert_entry nat_cmp (map pieces_spec.placed pieces) piece.start piece ≡ map pieces_spec.placed (pieces_spec.put_in_order piece pieces)
insert-put piece [] apart = refl
insert-put piece (first ∷ pieces) apart =
    by (nat_lt piece.start first.start) refl (nat_eq piece.start first.start) (starts_differ piece first apart.0) (nat_lt first.start piece.start) refl (insert-put piece pieces apart.1)
  where
    differ : nat_eq piece.start first.start ≡ false
    differ = starts_differ piece first apart.0

    by : (less : Bool) → nat_lt piece.start first.start ≡ less → (same : Bool) → same ≡ false → (more : Bool) → nat_lt first.start piece.start ≡ more
        → insert_entry nat_cmp (map pieces_spec.placed pieces) piece.start piece ≡ map pieces_spec.placed (pieces_spec.put_in_order piece pieces)
        → match_ordering (cond less Less (cond same Equal Greater)) (pieces_spec.placed piece ∷ map pieces_spec.placed (first ∷ pieces)) ((first.start, piece) ∷ map pieces_spec.placed pieces) (pieces_spec.placed first ∷ insert_entry nat_cmp (map pieces_spec.placed pieces) piece.start piece)
        ≡ map pieces_spec.placed (if more then first ∷ pieces_spec.put_in_order piece pieces else piece ∷ first ∷ pieces)
    by less is true never more was rest = let no = never in cc
    by true is false other true was rest = absurd (grind (arith, nat_tests))
    by true is false other false was rest = refl
    by false is false other true was rest = ap (λ (l : List (ℕ × Piece)). pieces_spec.placed first ∷ l) rest
    by false is false other false was rest = absurd (grind (arith, nat_tests, differ))

-- the pieces end behind their octets
sizes-le : (pieces : List Piece) (at k : ℕ) (first d : Piece) → pieces_spec.IsInOrder (first ∷ pieces) → AllByRecursion pieces_spec.IsSmall (first ∷ pieces) → at ≤ first.start → k ≡ length pieces
    → at + pieces_spec.sizes (first ∷ pieces) ≤ (get_or (first ∷ pieces) k d).end
sizes-le [] at zero first d order small ordered is = omega (arith, small.0.0)
sizes-le [] at (suc k) first d order small ordered is = absurd (omega arith)
sizes-le (next ∷ pieces) at zero first d order small ordered is = absurd (omega arith)
sizes-le (next ∷ pieces) at (suc k) first d order small ordered is =
    let behind = before first next order.0.0 in
    let rest = sizes-le pieces first.end k next d order.1 small.1 behind.ends (omega arith) in omega (arith, rest, small.0.0)

small_at : (pieces : List Piece) (place : ℕ) (d : Piece) → AllByRecursion pieces_spec.IsSmall pieces → place < length pieces → pieces_spec.IsSmall (get_or pieces place d)
small_at [] place d small within = absurd (omega arith)
small_at (next ∷ pieces) zero d small within = small.0
small_at (next ∷ pieces) (suc place) d small within = small_at pieces place d small.1 (omega arith)

-- they have no more octets than 32 bits count
pub held_small : (pieces : List Piece) → pieces_spec.IsInOrder pieces → AllByRecursion pieces_spec.IsSmall pieces → pieces_spec.sizes pieces < 2 ^ 32
held_small [] order small = omega arith
held_small (first ∷ pieces) order small =
    let size = sizes-le pieces 0 (length pieces) first first order small (omega arith) refl in
    let last = small_at (first ∷ pieces) (length pieces) first small (omega arith) in omega (arith, size, last.1)

pub record Added (piece : Piece) (pieces : List Piece) (by_place : BTreeMap ℕ Piece) (held : ℕ) : Type 0 where
  pub within : held + pieces_spec.piece_size piece < 2 ^ 32
  pub kept : pieces_spec.AreKept (pieces ++ piece ∷ []) by_place (held + pieces_spec.piece_size piece)

pub added : (piece : Piece) (pieces : List Piece) (old new : BTreeMap ℕ Piece) (held : ℕ) → pieces_spec.AreKept pieces old held → pieces_spec.IsSmall piece → pieces_spec.clashes_with pieces piece ≡ false
    → new.entries ≡ insert_entry nat_cmp old.entries piece.start piece → Added piece pieces new held
added piece pieces old new held kept fits none entries = by (in_order-push piece pieces (none_pass (pieces_spec.clashes piece) pieces none))
  where
    rest : List Piece
    rest = pieces_spec.in_order pieces

    apart : AllByRecursion (λ other. pieces_spec.clashes piece other ≡ false) rest
    apart = none_pass (pieces_spec.clashes piece) rest (any-in_order (pieces_spec.clashes piece) pieces ∙ none)

    ordered : pieces_spec.IsInOrder (pieces_spec.put_in_order piece rest)
    ordered = order_put piece rest kept.small apart kept.ordered

    small : AllByRecursion pieces_spec.IsSmall (pieces_spec.put_in_order piece rest)
    small = all_put pieces_spec.IsSmall piece rest fits kept.small

    by : pieces_spec.in_order (pieces ++ piece ∷ []) ≡ pieces_spec.put_in_order piece rest → Added piece pieces new held
    by is =
        let size = sizes-put piece rest in record {
          within = omega (arith, size, kept.held_is, held_small (pieces_spec.put_in_order piece rest) ordered small);
          kept = record {
            ordered = subst pieces_spec.IsInOrder (sym is) ordered;
            small = subst (AllByRecursion pieces_spec.IsSmall) (sym is) small;
            placed_are = entries ∙ ap (λ (l : List (ℕ × Piece)). insert_entry nat_cmp l piece.start piece) kept.placed_are ∙ insert-put piece rest apart ∙ ap (map pieces_spec.placed) (sym is);
            held_is = omega (arith, size, kept.held_is, ap pieces_spec.sizes is);
          };
        }

and_comm : (a b : Bool) → (a && b) ≡ (b && a)
and_comm true true = refl
and_comm true false = refl
and_comm false true = refl
and_comm false false = refl

and_false : (a : Bool) → false ≡ (a && false)
and_false true = refl
and_false false = refl

-- the pieces have all octets where they have as many as the end says
pub fills_is : (pieces : List Piece) (at k : ℕ) (first d : Piece) → pieces_spec.IsInOrder (first ∷ pieces) → AllByRecursion pieces_spec.IsSmall (first ∷ pieces) → at ≤ first.start → k ≡ length pieces
    → pieces_spec.fills at (first ∷ pieces) ≡ (not (get_or (first ∷ pieces) k d).more && nat_eq (at + pieces_spec.sizes (first ∷ pieces)) (get_or (first ∷ pieces) k d).end)
fills_is [] at zero first d order small ordered is =
    let fits = small.0 in
    let same : nat_eq (at + pieces_spec.sizes (first ∷ [])) first.end ≡ nat_eq first.start at = grind (arith, nat_tests, fits.0) in
    rw same (and_comm (nat_eq first.start at) (not first.more))
fills_is [] at (suc k) first d order small ordered is = absurd (omega arith)
fills_is (next ∷ pieces) at zero first d order small ordered is = absurd (omega arith)
fills_is (next ∷ pieces) at (suc k) first d order small ordered is =
    by (nat_eq first.start at) refl (fills_is pieces first.end k next d order.1 small.1 (before first next order.0.0).ends (omega arith))
  where
    last : Piece
    last = get_or (next ∷ pieces) k d

    by : (here : Bool) → nat_eq first.start at ≡ here → pieces_spec.fills first.end (next ∷ pieces) ≡ (not last.more && nat_eq (first.end + pieces_spec.sizes (next ∷ pieces)) last.end)
        → (here && pieces_spec.fills first.end (next ∷ pieces)) ≡ (not last.more && nat_eq (at + pieces_spec.sizes (first ∷ next ∷ pieces)) last.end)
    by true same rest =
        let start : first.start ≡ at = grind (arith, nat_tests) in
        let fits = small.0.0 in
        let size : at + pieces_spec.sizes (first ∷ next ∷ pieces) ≡ first.end + pieces_spec.sizes (next ∷ pieces) = omega arith in rw size rest
    by false other rest =
        let start : at < first.start = grind (arith, nat_tests, ordered) in
        let fits = small.0.0 in
        let behind = sizes-le pieces first.end k next d order.1 small.1 (before first next order.0.0).ends (omega arith) in
        let less : nat_eq (at + pieces_spec.sizes (first ∷ next ∷ pieces)) last.end ≡ false = grind (arith, nat_tests, behind, fits, start) in
        rw less (and_false (not last.more))

-- the last piece tells whether they have all octets
last_is : (pieces : List Piece) (k place : ℕ) (last : Piece) → slice_get (map pieces_spec.placed pieces) k ≡ Some (place, last) → last ≡ get_or pieces k last
last_is [] k place last is = let no = is in cc
last_is (first ∷ pieces) zero place last is = let pair : pieces_spec.placed first ≡ (place, last) = cc in sym (ap (λ (p : ℕ × Piece). p.1) pair)
last_is (first ∷ pieces) (suc k) place last is = last_is pieces k place last is

pub last_tells : (pieces : List Piece) (by_place : BTreeMap ℕ Piece) (held place : ℕ) (last : Piece) → pieces_spec.AreKept pieces by_place held
    → slice_get by_place.entries (length by_place.entries - 1) ≡ Some (place, last) → pieces_spec.fills 0 (pieces_spec.in_order pieces) ≡ (not last.more && nat_eq held last.end)
last_tells pieces by_place held place last kept is = by (pieces_spec.in_order pieces) kept.ordered kept.small kept.held_is (subst (λ (l : List (ℕ × Piece)). slice_get l (length l - 1) ≡ Some (place, last)) kept.placed_are is)
  where
    by : (rest : List Piece) → pieces_spec.IsInOrder rest → AllByRecursion pieces_spec.IsSmall rest → held ≡ pieces_spec.sizes rest → slice_get (map pieces_spec.placed rest) (length (map pieces_spec.placed rest) - 1) ≡ Some (place, last)
        → pieces_spec.fills 0 rest ≡ (not last.more && nat_eq held last.end)
    by [] order small size there = let no = there in cc
    by (first ∷ rest) order small size there =
        let at : length (map pieces_spec.placed (first ∷ rest)) - 1 ≡ length rest = omega (arith, length-map rest pieces_spec.placed) in
        let it = last_is (first ∷ rest) (length rest) place last (subst (λ (n : ℕ). slice_get (map pieces_spec.placed (first ∷ rest)) n ≡ Some (place, last)) at there) in
        let sum : 0 + pieces_spec.sizes (first ∷ rest) ≡ held = omega (arith, size) in
        fills_is rest 0 (length rest) first last order small (omega arith) refl
        ∙ ap (λ (n : ℕ). not (get_or (first ∷ rest) (length rest) last).more && nat_eq n (get_or (first ∷ rest) (length rest) last).end) sum
        ∙ ap (λ (p : Piece). not p.more && nat_eq held p.end) (sym it)

pub none_kept : (pieces : List Piece) (by_place : BTreeMap ℕ Piece) (held : ℕ) → pieces_spec.AreKept pieces by_place held → length by_place.entries ≡ 0 → pieces_spec.fills 0 (pieces_spec.in_order pieces) ≡ false
none_kept pieces by_place held kept none = by (pieces_spec.in_order pieces) (ap length (sym kept.placed_are) ∙ none)
  where
    by : (rest : List Piece) → length (map pieces_spec.placed rest) ≡ 0 → pieces_spec.fills 0 rest ≡ false
    by [] is = refl
    by (first ∷ rest) is = absurd (omega arith)

-- the values of the map are the pieces in their order
pub values_are : (pieces : List Piece) (by_place : BTreeMap ℕ Piece) (held : ℕ) → pieces_spec.AreKept pieces by_place held → values_of by_place.entries ≡ pieces_spec.in_order pieces
values_are pieces by_place held kept = ap values_of kept.placed_are ∙ all (pieces_spec.in_order pieces)
  where
    all : (rest : List Piece) → values_of (map pieces_spec.placed rest) ≡ rest
    all [] = refl
    all (first ∷ rest) = ap (λ (l : List Piece). first ∷ l) (all rest)
