-- The pieces of a packet in their order.
use Rattle.std.proofs.Common.{◌≡◌, ◌+◌, ◌<◌, ◌≤◌, Bool, true, false, List, [], ◌∷◌, ◌++◌, refl, sym, ap, ◌∙◌, arith}
use Rattle.std.specs.Prelude.{◌||◌, nat_lt, nat_eq, if◌then◌else◌}
use Rattle.std.specs.List.{AllByRecursion, list_any}
use Rattle.std.proofs.lemmas.Bool.Decides.{nat_tests}
use Rattle.rtps_capture.specs.Pieces as pieces_spec
use Rattle.rtps_capture.specs.declared.pieces.Piece.{Piece}

-- what standing before says of the places
pub record Before (one other : Piece) : Type 0 where
  pub begins : one.start < other.start
  pub ends : one.end ≤ other.start

pub before : (one other : Piece) → pieces_spec.stands_before one other ≡ true → Before one other
before one other is = record { begins = grind (arith, nat_tests); ends = grind (arith, nat_tests) }

-- what a piece before another has before it, is before that, too
pub before-trans : (one other last : Piece) → pieces_spec.IsSmall other → pieces_spec.stands_before one other ≡ true → pieces_spec.stands_before other last ≡ true → pieces_spec.stands_before one last ≡ true
before-trans one other last small p q = grind (arith, nat_tests)

pub not_before : (one other : Piece) → other.start ≤ one.start → pieces_spec.stands_before one other ≡ false
not_before one other is = grind (arith, nat_tests)

pub or_true : (b : Bool) → (b || true) ≡ true
or_true true = refl
or_true false = refl

pub or_false : (b : Bool) → (b || false) ≡ b
or_false true = refl
or_false false = refl

-- pieces of which neither stands before the other clash
pub clashing : (one other : Piece) → pieces_spec.stands_before one other ≡ false → pieces_spec.stands_before other one ≡ false → pieces_spec.clashes one other ≡ true
clashing one other p q = grind (arith, nat_tests)

pub apart_before : (one other : Piece) → pieces_spec.stands_before one other ≡ true → pieces_spec.clashes one other ≡ false
apart_before one other p = grind (arith, nat_tests)

pub apart_behind : (one other : Piece) → pieces_spec.stands_before other one ≡ true → pieces_spec.clashes one other ≡ false
apart_behind one other p = grind (arith, nat_tests)

-- a piece that does not clash with another and does not begin before it, or not behind it, stands so to it
pub stands_so : (one other : Piece) → pieces_spec.clashes one other ≡ false → other.start ≤ one.start → pieces_spec.stands_before other one ≡ true
stands_so one other apart is = grind (arith, nat_tests)

pub stands_other : (one other : Piece) → pieces_spec.clashes one other ≡ false → one.start ≤ other.start → pieces_spec.stands_before one other ≡ true
stands_other one other apart is = grind (arith, nat_tests)

pub starts_differ : (one other : Piece) → pieces_spec.clashes one other ≡ false → nat_eq one.start other.start ≡ false
starts_differ one other apart = grind (arith, nat_tests)

-- what is put among others in their order
pub all_put : (P : Piece → Type 0) (piece : Piece) (pieces : List Piece) → P piece → AllByRecursion P pieces → AllByRecursion P (pieces_spec.put_in_order piece pieces)
all_put P piece [] one all = (one, tt)
all_put P piece (first ∷ pieces) one all = by (nat_lt first.start piece.start) (all_put P piece pieces one all.1)
  where
    by : (less : Bool) → AllByRecursion P (pieces_spec.put_in_order piece pieces) → AllByRecursion P (if less then first ∷ pieces_spec.put_in_order piece pieces else piece ∷ first ∷ pieces)
    by true rest = (all.0, rest)
    by false rest = (one, all)

pub all_from_put : (P : Piece → Type 0) (piece : Piece) (pieces : List Piece) → AllByRecursion P (pieces_spec.put_in_order piece pieces) → P piece × AllByRecursion P pieces
all_from_put P piece [] all = (all.0, tt)
all_from_put P piece (first ∷ pieces) all = by (nat_lt first.start piece.start) all (all_from_put P piece pieces)
  where
    by : (less : Bool) → AllByRecursion P (if less then first ∷ pieces_spec.put_in_order piece pieces else piece ∷ first ∷ pieces)
        → (AllByRecursion P (pieces_spec.put_in_order piece pieces) → P piece × AllByRecursion P pieces) → P piece × AllByRecursion P (first ∷ pieces)
    by true is rest = ((rest is.1).0, (is.0, (rest is.1).1))
    by false is rest = is

pub sizes-put : (piece : Piece) (pieces : List Piece) → pieces_spec.sizes (pieces_spec.put_in_order piece pieces) ≡ pieces_spec.piece_size piece + pieces_spec.sizes pieces
sizes-put piece [] = refl
sizes-put piece (first ∷ pieces) = by (nat_lt first.start piece.start) (sizes-put piece pieces)
  where
    by : (less : Bool) → pieces_spec.sizes (pieces_spec.put_in_order piece pieces) ≡ pieces_spec.piece_size piece + pieces_spec.sizes pieces
        → pieces_spec.sizes (if less then first ∷ pieces_spec.put_in_order piece pieces else piece ∷ first ∷ pieces) ≡ pieces_spec.piece_size piece + pieces_spec.sizes (first ∷ pieces)
    by true rest = omega (arith, rest)
    by false rest = refl

any-put : (test : Piece → Bool) (piece : Piece) (pieces : List Piece) → list_any test (pieces_spec.put_in_order piece pieces) ≡ (test piece || list_any test pieces)
any-put test piece [] = refl
any-put test piece (first ∷ pieces) = by (nat_lt first.start piece.start) (any-put test piece pieces)
  where
    swap : (a b c : Bool) → (a || (b || c)) ≡ (b || (a || c))
    swap true b c = sym (or_true b)
    swap false b c = refl

    by : (less : Bool) → list_any test (pieces_spec.put_in_order piece pieces) ≡ (test piece || list_any test pieces)
        → list_any test (if less then first ∷ pieces_spec.put_in_order piece pieces else piece ∷ first ∷ pieces) ≡ (test piece || list_any test (first ∷ pieces))
    by true rest = ap (λ (b : Bool). test first || b) rest ∙ swap (test first) (test piece) (list_any test pieces)
    by false rest = refl

pub any-in_order : (test : Piece → Bool) (pieces : List Piece) → list_any test (pieces_spec.in_order pieces) ≡ list_any test pieces
any-in_order test [] = refl
any-in_order test (piece ∷ pieces) = any-put test piece (pieces_spec.in_order pieces) ∙ ap (λ (b : Bool). test piece || b) (any-in_order test pieces)

pub none_pass : (test : Piece → Bool) (pieces : List Piece) → list_any test pieces ≡ false → AllByRecursion (λ piece. test piece ≡ false) pieces
none_pass test [] none = tt
none_pass test (piece ∷ pieces) none = by (test piece) refl none (none_pass test pieces)
  where
    by : (here : Bool) → test piece ≡ here → (here || list_any test pieces) ≡ false → (list_any test pieces ≡ false → AllByRecursion (λ piece. test piece ≡ false) pieces)
        → (test piece ≡ false) × AllByRecursion (λ piece. test piece ≡ false) pieces
    by true is rest later = let no = rest in cc
    by false is rest later = (is, later rest)

-- two pieces that begin at other places are put among others in either order
put-less : (one other : Piece) (pieces : List Piece) → one.start < other.start → pieces_spec.put_in_order one (pieces_spec.put_in_order other pieces) ≡ pieces_spec.put_in_order other (pieces_spec.put_in_order one pieces)
put-less one other [] less =
    let first : nat_lt one.start other.start ≡ true = grind (arith, nat_tests) in let last : nat_lt other.start one.start ≡ false = grind (arith, nat_tests) in rw (first, last) refl
put-less one other (first ∷ pieces) less = by (nat_lt first.start one.start) refl (nat_lt first.start other.start) refl (put-less one other pieces less)
  where
    here : (piece next : Piece) (rest : List Piece) (less : Bool) → nat_lt next.start piece.start ≡ less
        → pieces_spec.put_in_order piece (next ∷ rest) ≡ (if less then next ∷ pieces_spec.put_in_order piece rest else piece ∷ next ∷ rest)
    here piece next rest less is = ap (λ (b : Bool). if b then next ∷ pieces_spec.put_in_order piece rest else piece ∷ next ∷ rest) is

    two : pieces_spec.put_in_order other (one ∷ first ∷ pieces) ≡ one ∷ pieces_spec.put_in_order other (first ∷ pieces)
    two = here other one (first ∷ pieces) true (let is : nat_lt one.start other.start ≡ true = grind (arith, nat_tests) in is)

    by : (a : Bool) → nat_lt first.start one.start ≡ a → (b : Bool) → nat_lt first.start other.start ≡ b
        → pieces_spec.put_in_order one (pieces_spec.put_in_order other pieces) ≡ pieces_spec.put_in_order other (pieces_spec.put_in_order one pieces)
        → pieces_spec.put_in_order one (if b then first ∷ pieces_spec.put_in_order other pieces else other ∷ first ∷ pieces) ≡ pieces_spec.put_in_order other (if a then first ∷ pieces_spec.put_in_order one pieces else one ∷ first ∷ pieces)
    by true a true b rest =
        here one first (pieces_spec.put_in_order other pieces) true a ∙ ap (λ (l : List Piece). first ∷ l) rest ∙ sym (here other first (pieces_spec.put_in_order one pieces) true b)
    by true a false b rest = absurd (grind (arith, nat_tests, less))
    by false a true b rest = here one first (pieces_spec.put_in_order other pieces) false a ∙ sym (two ∙ ap (λ (l : List Piece). one ∷ l) (here other first pieces true b))
    by false a false b rest =
        here one other (first ∷ pieces) false (let is : nat_lt other.start one.start ≡ false = grind (arith, nat_tests, less) in is)
        ∙ sym (two ∙ ap (λ (l : List Piece). one ∷ l) (here other first pieces false b))

-- two pieces that begin at other places are put among others in either order
put-put : (one other : Piece) (pieces : List Piece) → nat_eq one.start other.start ≡ false → pieces_spec.put_in_order one (pieces_spec.put_in_order other pieces) ≡ pieces_spec.put_in_order other (pieces_spec.put_in_order one pieces)
put-put one other pieces apart = by (nat_lt one.start other.start) refl
  where
    by : (less : Bool) → nat_lt one.start other.start ≡ less → pieces_spec.put_in_order one (pieces_spec.put_in_order other pieces) ≡ pieces_spec.put_in_order other (pieces_spec.put_in_order one pieces)
    by true less = put-less one other pieces (grind (arith, nat_tests))
    by false more = sym (put-less other one pieces (grind (arith, nat_tests)))

-- the last one to come is put among the others
pub in_order-push : (piece : Piece) (pieces : List Piece) → AllByRecursion (λ other. pieces_spec.clashes piece other ≡ false) pieces → pieces_spec.in_order (pieces ++ piece ∷ []) ≡ pieces_spec.put_in_order piece (pieces_spec.in_order pieces)
in_order-push piece [] apart = refl
in_order-push piece (first ∷ pieces) apart =
    ap (pieces_spec.put_in_order first) (in_order-push piece pieces apart.1) ∙ sym (put-put piece first (pieces_spec.in_order pieces) (starts_differ piece first apart.0))

-- what holds of each piece holds of what is left for another, and of the pieces in their order
pub all_left : (P : Piece → Type 0) (piece : Piece) (pieces : List Piece) → AllByRecursion P pieces → AllByRecursion P (pieces_spec.left_for piece pieces)
all_left P piece [] all = tt
all_left P piece (oldest ∷ pieces) all = by (pieces_spec.clashes_with (oldest ∷ pieces) piece) (all_left P piece pieces all.1)
  where
    by : (some : Bool) → AllByRecursion P (pieces_spec.left_for piece pieces) → AllByRecursion P (if some then pieces_spec.left_for piece pieces else oldest ∷ pieces)
    by true rest = rest
    by false rest = all

pub all_in_order : (P : Piece → Type 0) (pieces : List Piece) → AllByRecursion P pieces → AllByRecursion P (pieces_spec.in_order pieces)
all_in_order P [] all = tt
all_in_order P (piece ∷ pieces) all = all_put P piece (pieces_spec.in_order pieces) all.0 (all_in_order P pieces all.1)

-- what is left for a piece that clashes with none
pub left_all : (piece : Piece) (pieces : List Piece) → pieces_spec.clashes_with pieces piece ≡ false → pieces_spec.left_for piece pieces ≡ pieces
left_all piece [] none = refl
left_all piece (oldest ∷ pieces) none = ap (λ (b : Bool). if b then pieces_spec.left_for piece pieces else oldest ∷ pieces) none
