-- What is found of the pieces of a packet by the place where it begins.
use Rattle.std.proofs.Common.{◌≡◌, ℕ, ◌<◌, ◌≤◌, Bool, true, false, List, [], ◌∷◌, ◌++◌, map, refl, sym, ap, ap₂, subst, ◌∙◌, arith}
use Rattle.std.specs.Prelude.{IfSome, IsSome, None, Option, Some, ◌||◌, not, nat_lt, nat_eq, if◌then◌else◌}
use Rattle.std.specs.BTreeMap.{BTreeMap, get, is_at}
use Rattle.std.specs.BTreeMap.Range.{IsEntryInRange, IsLeBy, IsRangeOf}
use Rattle.std.specs.List.{AllByRecursion, slice_get}
use Rattle.std.specs.Map.{lookup}
use Rattle.std.specs.Ordering.{is_gt, nat_cmp}
use Rattle.std.specs.declared.cmp.Ordering.TheVariants.{Less}
use Rattle.std.specs.declared.ops.Bound.TheVariants.{Excluded, Included, Unbounded}
use Rattle.std.proofs.lemmas.Bool.Decides.{nat_tests}
use Rattle.std.proofs.lemmas.Map.Keys.{ge_from_not_lt, le_from_not_gt}
use Rattle.rtps_capture.specs.Pieces as pieces_spec
use Rattle.rtps_capture.specs.declared.pieces.Piece.{Piece}
use Rattle.rtps_capture.proofs.PieceLemmas.{any-in_order, apart_before, apart_behind, before, before-trans, clashing, not_before, or_false, or_true}

-- what is kept at a place
abbrev pub found : ℕ → List Piece → Option Piece
found at pieces = lookup (is_at (nat_cmp at)) (map pieces_spec.placed pieces)

pub key_is : (k q : ℕ) → is_at (nat_cmp k) q ≡ nat_eq k q
key_is k q = grind (arith, nat_tests)

found-cons : (k : ℕ) (first : Piece) (pieces : List Piece) → found k (first ∷ pieces) ≡ (if nat_eq k first.start then Some first else found k pieces)
found-cons k first pieces = ap (λ (b : Bool). if b then Some first else found k pieces) (key_is k first.start)

found_in : (P : Piece → Type 0) (k : ℕ) (pieces : List Piece) (x : Piece) → AllByRecursion P pieces → found k pieces ≡ Some x → P x × (x.start ≡ k)
found_in P k [] x all is = let no = is in cc
found_in P k (first ∷ pieces) x all is = by (nat_eq k first.start) refl (sym (found-cons k first pieces) ∙ is) (found_in P k pieces x all.1)
  where
    by : (same : Bool) → nat_eq k first.start ≡ same → (if same then Some first else found k pieces) ≡ Some x → (found k pieces ≡ Some x → P x × (x.start ≡ k)) → P x × (x.start ≡ k)
    by true same there later = let here : first ≡ x = cc in subst (λ (p : Piece). P p × (p.start ≡ k)) here (all.0, grind (arith, nat_tests))
    by false same there later = later there

found_before : (j k : ℕ) (pieces : List Piece) (x y : Piece) → pieces_spec.IsInOrder pieces → found j pieces ≡ Some x → found k pieces ≡ Some y → j < k → pieces_spec.stands_before x y ≡ true
found_before j k [] x y order one other less = let no = one in cc
found_before j k (first ∷ pieces) x y order one other less =
    by (nat_eq j first.start) refl (sym (found-cons j first pieces) ∙ one) (nat_eq k first.start) refl (sym (found-cons k first pieces) ∙ other) (found_before j k pieces x y order.1)
  where
    by : (here : Bool) → nat_eq j first.start ≡ here → (if here then Some first else found j pieces) ≡ Some x → (there : Bool) → nat_eq k first.start ≡ there
        → (if there then Some first else found k pieces) ≡ Some y → (found j pieces ≡ Some x → found k pieces ≡ Some y → j < k → pieces_spec.stands_before x y ≡ true) → pieces_spec.stands_before x y ≡ true
    by true is one true was other rest = absurd (grind (arith, nat_tests))
    by true is one false was other rest =
        let same : first ≡ x = cc in subst (λ (p : Piece). pieces_spec.stands_before p y ≡ true) same (found_in (λ p. pieces_spec.stands_before first p ≡ true) k pieces y order.0 other).0
    by false is one true was other rest =
        let later = found_in (λ p. pieces_spec.stands_before first p ≡ true) j pieces x order.0 one in
        let behind = before first x later.0 in
        let at : k ≡ first.start = grind (arith, nat_tests) in absurd (omega (arith, behind.begins, later.1))
    by false is one false was other rest = rest one other less

-- none clashes, where none of those does that are found
none_clash : (piece : Piece) (pieces : List Piece) → pieces_spec.IsInOrder pieces → ((k : ℕ) (x : Piece) → found k pieces ≡ Some x → pieces_spec.clashes piece x ≡ false) → pieces_spec.clashes_with pieces piece ≡ false
none_clash piece [] order every = refl
none_clash piece (first ∷ pieces) order every =
    let same : nat_eq first.start first.start ≡ true = grind (arith, nat_tests) in
    let here = every first.start first (found-cons first.start first pieces ∙ ap (λ (b : Bool). if b then Some first else found first.start pieces) same) in
    ap₂ (λ (a b : Bool). a || b) here (none_clash piece pieces order.1 later)
  where
    later : (k : ℕ) (x : Piece) → found k pieces ≡ Some x → pieces_spec.clashes piece x ≡ false
    later k x is =
        let at = found_in (λ p. pieces_spec.stands_before first p ≡ true) k pieces x order.0 is in
        let behind = before first x at.0 in
        let other : nat_eq k first.start ≡ false = grind (arith, nat_tests, behind.begins, at.1) in
        every k x (found-cons k first pieces ∙ ap (λ (b : Bool). if b then Some first else found k pieces) other ∙ is)

one_clashes : (piece : Piece) (k : ℕ) (pieces : List Piece) (x : Piece) → found k pieces ≡ Some x → pieces_spec.clashes piece x ≡ true → pieces_spec.clashes_with pieces piece ≡ true
one_clashes piece k [] x is clash = let no = is in cc
one_clashes piece k (first ∷ pieces) x is clash = by (nat_eq k first.start) (sym (found-cons k first pieces) ∙ is) (one_clashes piece k pieces x)
  where
    by : (same : Bool) → (if same then Some first else found k pieces) ≡ Some x → (found k pieces ≡ Some x → pieces_spec.clashes piece x ≡ true → pieces_spec.clashes_with pieces piece ≡ true)
        → (pieces_spec.clashes piece first || pieces_spec.clashes_with pieces piece) ≡ true
    by true there rest = let here : first ≡ x = cc in ap (λ (b : Bool). b || pieces_spec.clashes_with pieces piece) (ap (pieces_spec.clashes piece) here ∙ clash)
    by false there rest = ap (λ (b : Bool). pieces_spec.clashes piece first || b) (rest there clash) ∙ or_true (pieces_spec.clashes piece first)

-- a piece is a repeat where it is the one that begins there
other_place : (file : List ℕ) (one other : Piece) → nat_eq one.start other.start ≡ false → pieces_spec.is_same file one other ≡ false
other_place file one other is = rw is refl

pub repeat_found : (file : List ℕ) (piece x : Piece) (pieces : List Piece) → pieces_spec.IsInOrder pieces → found piece.start pieces ≡ Some x → pieces_spec.is_repeat file piece pieces ≡ pieces_spec.is_same file piece x
repeat_found file piece x [] order is = let no = is in cc
repeat_found file piece x (first ∷ pieces) order is = by (nat_eq piece.start first.start) refl (sym (found-cons piece.start first pieces) ∙ is) (repeat_found file piece x pieces order.1)
  where
    none : (others : List Piece) → AllByRecursion (λ next. pieces_spec.stands_before first next ≡ true) others → nat_eq piece.start first.start ≡ true → pieces_spec.is_repeat file piece others ≡ false
    none [] all same = refl
    none (next ∷ others) all same =
        let behind = before first next all.0 in
        let other : nat_eq piece.start next.start ≡ false = grind (arith, nat_tests, behind.begins) in
        ap₂ (λ (a b : Bool). a || b) (other_place file piece next other) (none others all.1 same)

    by : (same : Bool) → nat_eq piece.start first.start ≡ same → (if same then Some first else found piece.start pieces) ≡ Some x
        → (found piece.start pieces ≡ Some x → pieces_spec.is_repeat file piece pieces ≡ pieces_spec.is_same file piece x) → (pieces_spec.is_same file piece first || pieces_spec.is_repeat file piece pieces) ≡ pieces_spec.is_same file piece x
    by true same there rest =
        let here : first ≡ x = cc in ap (λ (b : Bool). pieces_spec.is_same file piece first || b) (none pieces order.0 same) ∙ or_false (pieces_spec.is_same file piece first) ∙ ap (pieces_spec.is_same file piece) here
    by false same there rest = ap (λ (b : Bool). b || pieces_spec.is_repeat file piece pieces) (other_place file piece first same) ∙ rest there

pub repeat_none : (file : List ℕ) (piece : Piece) (pieces : List Piece) → found piece.start pieces ≡ None → pieces_spec.is_repeat file piece pieces ≡ false
repeat_none file piece [] is = refl
repeat_none file piece (first ∷ pieces) is = by (nat_eq piece.start first.start) refl (sym (found-cons piece.start first pieces) ∙ is) (repeat_none file piece pieces)
  where
    by : (same : Bool) → nat_eq piece.start first.start ≡ same → (if same then Some first else found piece.start pieces) ≡ None
        → (found piece.start pieces ≡ None → pieces_spec.is_repeat file piece pieces ≡ false) → (pieces_spec.is_same file piece first || pieces_spec.is_repeat file piece pieces) ≡ false
    by true same there rest = let no = there in cc
    by false same there rest = ap₂ (λ (a b : Bool). a || b) (other_place file piece first same) (rest there)

less_is : (a b : ℕ) → nat_cmp a b ≡ Less → a < b
less_is a b is = grind (arith, nat_tests)

is_less : (a b : ℕ) → a < b → nat_cmp a b ≡ Less
is_less a b less = grind (arith, nat_tests)

not_more : (a b : ℕ) → a ≤ b → is_gt (nat_cmp a b) ≡ false
not_more a b le = grind (arith, nat_tests)

-- what a map of kept pieces has
pub get_is : (pieces : List Piece) (by_place : BTreeMap ℕ Piece) (held k : ℕ) → pieces_spec.AreKept pieces by_place held → get nat_cmp by_place k ≡ found k (pieces_spec.in_order pieces)
get_is pieces by_place held k kept = ap (lookup (is_at (nat_cmp k))) kept.placed_are

-- no piece clashes that begins before this one, or not before it
abbrev pub IsFrontApart : Piece → List Piece → Type 0
IsFrontApart piece pieces = (k : ℕ) (x : Piece) → found k (pieces_spec.in_order pieces) ≡ Some x → k < piece.start → pieces_spec.clashes piece x ≡ false

abbrev pub IsBackApart : Piece → List Piece → Type 0
IsBackApart piece pieces = (k : ℕ) (x : Piece) → found k (pieces_spec.in_order pieces) ≡ Some x → piece.start ≤ k → pieces_spec.clashes piece x ≡ false

-- The neighbours of a piece decide: one that does not stand so clashes, and else none does that is behind it.
module _ (piece : Piece) (pieces : List Piece) (by_place : BTreeMap ℕ Piece) (held : ℕ) (kept : pieces_spec.AreKept pieces by_place held) where
  found_here : (k : ℕ) (x : Piece) → get nat_cmp by_place k ≡ Some x → found k (pieces_spec.in_order pieces) ≡ Some x
  found_here k x is = sym (get_is pieces by_place held k kept) ∙ is

  some_here : (k : ℕ) (x : Piece) → found k (pieces_spec.in_order pieces) ≡ Some x → IsSome (get nat_cmp by_place k)
  some_here k x is = subst IsSome (sym (get_is pieces by_place held k kept ∙ is)) refl

  one_here : (k : ℕ) (x : Piece) → get nat_cmp by_place k ≡ Some x → pieces_spec.clashes piece x ≡ true → pieces_spec.clashes_with pieces piece ≡ true
  one_here k x is clash = sym (any-in_order (pieces_spec.clashes piece) pieces) ∙ one_clashes piece k (pieces_spec.in_order pieces) x (found_here k x is) clash

  small_here : (k : ℕ) (x : Piece) → get nat_cmp by_place k ≡ Some x → pieces_spec.IsSmall x × (x.start ≡ k)
  small_here k x is = found_in pieces_spec.IsSmall k (pieces_spec.in_order pieces) x kept.small (found_here k x is)

  pub before_clashes : (r t : List (ℕ × Piece)) (k : ℕ) (x : Piece) → IsRangeOf nat_cmp Unbounded (Excluded piece.start) by_place r → r ≡ t ++ (k, x) ∷ []
      → pieces_spec.stands_before x piece ≡ false → pieces_spec.clashes_with pieces piece ≡ true
  before_clashes r t k x range is stands =
      let here = range.3 (k, x) t is in
      let at = small_here k x here.1 in
      let less = less_is k piece.start here.0.1 in one_here k x here.1 (clashing piece x (not_before piece x (omega (arith, at.1, less))) stands)

  pub behind_clashes : (r t : List (ℕ × Piece)) (k : ℕ) (x : Piece) → IsRangeOf nat_cmp (Included piece.start) Unbounded by_place r → r ≡ (k, x) ∷ t
      → pieces_spec.stands_before piece x ≡ false → pieces_spec.clashes_with pieces piece ≡ true
  behind_clashes r t k x range is stands =
      let here = subst (λ (l : List (ℕ × Piece)). IfSome (slice_get l 0) (IsEntryInRange nat_cmp (Included piece.start) Unbounded by_place)) is range.1 in
      let at = small_here k x here.1 in
      let more = le_from_not_gt piece.start k here.0.0 in one_here k x here.1 (clashing piece x stands (not_before x piece (omega (arith, at.1, more))))

  pub front_none : (r : List (ℕ × Piece)) → IsRangeOf nat_cmp Unbounded (Excluded piece.start) by_place r → r ≡ [] → IsFrontApart piece pieces
  front_none r range is j y there less =
      let none = sym (get_is pieces by_place held j kept) ∙ range.5 is j (tt, is_less j piece.start less) in let no = none in cc

  pub front_apart : (r t : List (ℕ × Piece)) (k : ℕ) (x : Piece) → IsRangeOf nat_cmp Unbounded (Excluded piece.start) by_place r → r ≡ t ++ (k, x) ∷ []
      → pieces_spec.stands_before x piece ≡ true → IsFrontApart piece pieces
  front_apart r t k x range is stands j y there less = by (nat_eq j k) refl
    where
      here : found k (pieces_spec.in_order pieces) ≡ Some x
      here = found_here k x (range.3 (k, x) t is).1

      up_to : j ≤ k
      up_to = ge_from_not_lt k j (range.4 (k, x) t is j (tt, is_less j piece.start less) (some_here j y there))

      by : (same : Bool) → nat_eq j k ≡ same → pieces_spec.clashes piece y ≡ false
      by true same =
          let at : found j (pieces_spec.in_order pieces) ≡ found k (pieces_spec.in_order pieces) = ap (λ (n : ℕ). found n (pieces_spec.in_order pieces)) (grind (arith, nat_tests)) in
          let one : x ≡ y = cc (at, here, there) in apart_behind piece y (subst (λ (p : Piece). pieces_spec.stands_before p piece ≡ true) one stands)
      by false other =
          apart_behind piece y (before-trans y x piece (found_in pieces_spec.IsSmall k (pieces_spec.in_order pieces) x kept.small here).0 (found_before j k (pieces_spec.in_order pieces) y x kept.ordered there here (grind (arith, nat_tests, up_to))) stands)

  pub back_none : (r : List (ℕ × Piece)) → IsRangeOf nat_cmp (Included piece.start) Unbounded by_place r → r ≡ [] → IsBackApart piece pieces
  back_none r range is j y there more =
      let none = sym (get_is pieces by_place held j kept) ∙ range.5 is j (not_more piece.start j more, tt) in let no = none in cc

  pub back_apart : (r t : List (ℕ × Piece)) (k : ℕ) (x : Piece) → IsRangeOf nat_cmp (Included piece.start) Unbounded by_place r → r ≡ (k, x) ∷ t
      → pieces_spec.stands_before piece x ≡ true → IsBackApart piece pieces
  back_apart r t k x range is stands j y there more = by (nat_eq j k) refl
    where
      first : IsEntryInRange nat_cmp (Included piece.start) Unbounded by_place (k, x)
      first = subst (λ (l : List (ℕ × Piece)). IfSome (slice_get l 0) (IsEntryInRange nat_cmp (Included piece.start) Unbounded by_place)) is range.1

      here : found k (pieces_spec.in_order pieces) ≡ Some x
      here = found_here k x first.1

      from : k ≤ j
      from = le_from_not_gt k j (subst (λ (l : List (ℕ × Piece)). IfSome (slice_get l 0) (λ e. IsLeBy nat_cmp e.0 j)) is (range.2 j (not_more piece.start j more, tt) (some_here j y there)))

      by : (same : Bool) → nat_eq j k ≡ same → pieces_spec.clashes piece y ≡ false
      by true same =
          let at : found j (pieces_spec.in_order pieces) ≡ found k (pieces_spec.in_order pieces) = ap (λ (n : ℕ). found n (pieces_spec.in_order pieces)) (grind (arith, nat_tests)) in
          let one : x ≡ y = cc (at, here, there) in apart_before piece y (subst (λ (p : Piece). pieces_spec.stands_before piece p ≡ true) one stands)
      by false other =
          apart_before piece y (before-trans piece x y (found_in pieces_spec.IsSmall k (pieces_spec.in_order pieces) x kept.small here).0 stands (found_before k j (pieces_spec.in_order pieces) x y kept.ordered here there (grind (arith, nat_tests, from))))

  pub apart_all : IsFrontApart piece pieces → IsBackApart piece pieces → pieces_spec.clashes_with pieces piece ≡ false
  apart_all front back = sym (any-in_order (pieces_spec.clashes piece) pieces) ∙ none_clash piece (pieces_spec.in_order pieces) kept.ordered (λ k x is. by k x is (nat_lt k piece.start) refl)
    where
      by : (k : ℕ) (x : Piece) → found k (pieces_spec.in_order pieces) ≡ Some x → (less : Bool) → nat_lt k piece.start ≡ less → pieces_spec.clashes piece x ≡ false
      by k x is true less = front k x is (grind (arith, nat_tests))
      by k x is false less = back k x is (grind (arith, nat_tests))

  pub back_tells : IsFrontApart piece pieces → (r t : List (ℕ × Piece)) (k : ℕ) (x : Piece) → IsRangeOf nat_cmp (Included piece.start) Unbounded by_place r → r ≡ (k, x) ∷ t
      → (stands : Bool) → stands ≡ pieces_spec.stands_before piece x → not stands ≡ pieces_spec.clashes_with pieces piece
  back_tells front r t k x range at true is = sym (apart_all front (back_apart r t k x range at (sym is)))
  back_tells front r t k x range at false is = sym (behind_clashes r t k x range at (sym is))
