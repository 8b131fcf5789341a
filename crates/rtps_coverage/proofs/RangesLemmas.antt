-- Lemmas on ranges in the order of their numbers.
use Rattle.std.proofs.Common.{ℕ, Bool, true, false, ◌≡◌, ◌≤◌, ◌<◌, ◌+◌, ◌-◌, ◌^◌, ◌&&◌, ◌||◌, ◌⊎◌, nat_le, nat_lt, ltb, max, min, List, [], ◌∷◌, ◌++◌, All, length, take, drop, get_or, set, refl, sym, ap, ◌∙◌, subst, inl, inr, arith, add-one}
use Rattle.std.specs.Prelude.{zero, suc, Result, Ok, Err, OnErr, OnOk}
use Rattle.std.specs.List.{AllWithin}
use Rattle.std.specs.List.Sorted.{IsNonDecreasingBy}
use Rattle.std.proofs.Math.Bool.{or_comm}
use Rattle.std.proofs.lemmas.Bool.{cases_lt, false≢true, ltb-true, ltb-false}
use Rattle.std.proofs.lemmas.Bool.Decides.{nat_tests}
use Rattle.std.proofs.lemmas.List.{drop_more, drop_at, drop-drop, drop_all, get_or-drop, get_or-take, get_or_default, length-append, length-drop, length-take, length-take-le, set_split, take-take, take_all, take_at, take-append-drop}
use Rattle.std.proofs.lemmas.List.Elements.{All-nil, All-cons, All-head, All-tail, All-append, All-drop}
use Rattle.std.proofs.lemmas.List.Folds.{list_any-append, list_any_at, list_any_none}
use Rattle.rtps_coverage.specs.Stretches as stretches
use Rattle.rtps_coverage.specs.Ranges as ranges
use Rattle.rtps_coverage.specs.declared.stretch.Stretch.{Stretch}

-- ---- parts of ranges that lie apart

-- what holds of each element holds of each of the first ones
pub all_left : (P : Stretch → Type 0) (xs ys : List Stretch) → All P (xs ++ ys) → All P xs
all_left P [] ys h = All-nil P
all_left P (x ∷ xs) ys h = All-cons P x xs (All-head P x (xs ++ ys) h) (all_left P xs ys (All-tail P x (xs ++ ys) h))

-- and of each of the last ones
pub all_right : (P : Stretch → Type 0) (xs ys : List Stretch) → All P (xs ++ ys) → All P ys
all_right P [] ys h = h
all_right P (x ∷ xs) ys h = all_right P xs ys (All-tail P x (xs ++ ys) h)

-- each of the first ranges ends before each of the last ones begins
abbrev pub AreFurther : List Stretch → List Stretch → Type 0
AreFurther xs ys = All (λ later. ranges.EndBefore later.lo xs) ys

pub apart_left : (xs ys : List Stretch) → ranges.AreApart (xs ++ ys) → ranges.AreApart xs
apart_left [] ys h = tt
apart_left (x ∷ xs) ys h = (h.0, all_left (λ other. x.hi < other.lo) xs ys h.1, apart_left xs ys h.2)

pub apart_right : (xs ys : List Stretch) → ranges.AreApart (xs ++ ys) → ranges.AreApart ys
apart_right [] ys h = h
apart_right (x ∷ xs) ys h = apart_right xs ys h.2

pub apart_further : (xs ys : List Stretch) → ranges.AreApart (xs ++ ys) → AreFurther xs ys
apart_further [] ys h = λ k d lt. All-nil (λ range. range.hi < (get_or ys k d).lo)
apart_further (x ∷ xs) ys h =
    let rest = apart_further xs ys h.2 in
    let first = all_right (λ other. x.hi < other.lo) xs ys h.1 in
    λ k d lt. All-cons (λ range. range.hi < (get_or ys k d).lo) x xs (first k d lt) (rest k d lt)

pub apart_both : (xs ys : List Stretch) → ranges.AreApart xs → ranges.AreApart ys → AreFurther xs ys → ranges.AreApart (xs ++ ys)
apart_both [] ys h k further = k
apart_both (x ∷ xs) ys h k further = (
  h.0,
  All-append (λ other. x.hi < other.lo) xs ys h.1 (λ i d lt. All-head (λ range. range.hi < (get_or ys i d).lo) x xs (further i d lt)),
  apart_both xs ys h.2 k (λ i d lt. All-tail (λ range. range.hi < (get_or ys i d).lo) x xs (further i d lt)),
)

pub apart_drop : (n : ℕ) (xs : List Stretch) → ranges.AreApart xs → ranges.AreApart (drop n xs)
apart_drop zero xs h = h
apart_drop (suc n) [] h = tt
apart_drop (suc n) (x ∷ xs) h = apart_drop n xs h.2

-- each is a range
pub are_ranges : (xs : List Stretch) → ranges.AreApart xs → All ranges.IsRange xs
are_ranges [] h = All-nil ranges.IsRange
are_ranges (x ∷ xs) h = All-cons ranges.IsRange x xs h.0 (are_ranges xs h.2)

-- the ends of such ranges rise
pub ends_rise : (xs : List Stretch) → ranges.AreApart xs → IsNonDecreasingBy (λ range. range.hi) xs
ends_rise [] h i j d le lt = absurd (omega arith)
ends_rise (x ∷ xs) h zero zero d le lt = omega arith
ends_rise (x ∷ xs) h zero (suc j) d le lt =
    let past = h.1 j d (omega arith) in
    let some = (are_ranges xs h.2 j d (omega arith)).some in
    omega arith
ends_rise (x ∷ xs) h (suc i) zero d le lt = absurd (omega arith)
ends_rise (x ∷ xs) h (suc i) (suc j) d le lt = ends_rise xs h.2 i j d (omega arith) (omega arith)

-- where the first begins past a number, all do
pub past_from_first : (number : ℕ) (x : Stretch) (xs : List Stretch) → ranges.AreApart (x ∷ xs) → number < x.lo → ranges.BeginPast number (x ∷ xs)
past_from_first number x xs h past =
    All-cons (λ range. number < range.lo) x xs past (λ k d lt. let later = h.1 k d lt in let some = h.0.some in omega arith)

pub past_at : (number place : ℕ) (xs : List Stretch) (d : Stretch) → ranges.AreApart (drop place xs) → place < length xs → number < (get_or xs place d).lo → ranges.BeginPast number (drop place xs)
past_at number place xs d h lt past =
    let e = drop_more xs place d lt in
    subst (ranges.BeginPast number) (sym e) (past_from_first number (get_or xs place d) (drop (place + 1) xs) (subst ranges.AreApart e h) past)

-- the first one from a place on
pub first_from : (xs : List Stretch) (place : ℕ) (d : Stretch) → place < length xs → get_or (drop place xs) 0 d ≡ get_or xs place d
first_from xs place d lt = ap (λ l. get_or l 0 d) (drop_more xs place d lt)

-- where the last one ends before a number, all do
pub all_end : (number : ℕ) (xs : List Stretch) (e : Stretch) → ranges.AreApart xs → 0 < length xs → (get_or xs (length xs - 1) e).hi < number → ranges.EndBefore number xs
all_end number xs e h some ends k d lt =
    let rise = ends_rise xs h k (length xs - 1) d (omega arith) (omega arith) in
    let same = ap (λ (range : Stretch). range.hi) (get_or_default xs (length xs - 1) d e (omega arith)) in
    omega arith

-- ---- how many end before a number

pub parted_from_search : (number : ℕ) (xs : List Stretch) (count : ℕ) → count ≤ length xs → AllWithin (λ range. ltb range.hi number ≡ true) xs 0 count → AllWithin (λ range. ltb range.hi number ≡ false) xs count (length xs) → ranges.AreParted number xs count
parted_from_search number xs count within low high = record {
  within = within;
  before = λ k d lt.
      let size = length-take-le count xs within in
      let below : k < count = omega arith in
      subst (λ (range : Stretch). range.hi < number) (sym (get_or-take count xs k d below)) (ltb-true _ _ (low k d (omega arith) below));
  past = λ k d lt.
      let size = length-drop count xs in
      subst (λ (range : Stretch). number ≤ range.hi) (sym (get_or-drop count xs k d)) (ltb-false _ _ (high (count + k) d (omega arith) (omega arith)));
}

pub all_parted : (number : ℕ) (xs : List Stretch) (e : Stretch) → ranges.AreApart xs → 0 < length xs → (get_or xs (length xs - 1) e).hi < number → ranges.AreParted number xs (length xs)
all_parted number xs e h some ends = record {
  within = omega arith;
  before = subst (ranges.EndBefore number) (sym (take_all (length xs) xs (omega arith))) (all_end number xs e h some ends);
  past = subst (All (λ range. number ≤ range.hi)) (sym (drop_all (length xs) xs (omega arith))) (All-nil (λ range. number ≤ range.hi));
}

pub parted_at : (number place : ℕ) (xs : List Stretch) (e : Stretch) → ranges.AreApart xs → place < length xs → (get_or xs place e).lo ≤ number → number ≤ (get_or xs place e).hi → ranges.AreParted number xs place
parted_at number place xs e h lt begins ends =
    let parts : take place xs ++ drop place xs ≡ xs = take-append-drop place xs in
    let further = apart_further (take place xs) (drop place xs) (subst ranges.AreApart (sym parts) h) in
    let size = length-drop place xs in
    record {
      within = omega arith;
      before = λ k d short.
          let here = first_from xs place e lt in
          let low = ap (λ (range : Stretch). range.lo) here in
          let earlier = further 0 e (omega arith) k d short in
          omega arith;
      past = λ k d short.
          let same = ap (λ (range : Stretch). range.hi) (get_or-drop place xs k d) in
          let rise = ends_rise xs h place (place + k) d (omega arith) (omega arith) in
          let here = ap (λ (range : Stretch). range.hi) (get_or_default xs place d e lt) in
          omega arith;
    }

-- ---- ranges that are taken in

-- a range that begins between lo and end is taken in by the numbers from lo on: both are one range then
takes_in : (lo from end to n : ℕ) (rest : Bool) → lo ≤ from → from ≤ end
    → (rest || (nat_le lo n && nat_lt n (max end to))) ≡ (((nat_le from n && nat_lt n to) || rest) || (nat_le lo n && nat_lt n end))
takes_in lo from end to n rest a b = grind (arith, nat_tests)

pub absorbs_none : (xs : List Stretch) (hi : ℕ) → ranges.Absorbs xs xs hi hi
absorbs_none xs hi = record {
  removed = 0;
  within = omega arith;
  is = refl;
  onward = omega arith;
  same = λ e. refl;
  met = λ lt. absurd (omega arith);
  has = λ lo n le from. refl;
  ends = λ bound lt all. lt;
}

-- a place from which on there is an element
pub place_of_first : (xs rest : List Stretch) (x : Stretch) (place : ℕ) → drop place xs ≡ x ∷ rest → place < length xs
place_of_first xs rest x place e =
    let size = ap length e in
    let all = length-drop place xs in
    omega arith

-- what is left of ranges that begin with one, once the first of them are gone, and how many these are
drop_step : (xs rest : List Stretch) (x : Stretch) (n : ℕ) → drop n xs ≡ x ∷ rest → rest ≡ drop (n + 1) xs
drop_step xs rest x n e = ap (drop 1) (sym e) ∙ drop-drop 1 n xs

first_of : (xs rest : List Stretch) (x : Stretch) → xs ≡ x ∷ rest → (0 < length xs) × (ranges.begin_of xs ≡ x.lo)
first_of xs rest x e = (subst (λ l. 0 < length l) (sym e) (omega arith), ap ranges.begin_of e)

pub absorbs_more : (old new rest : List Stretch) (x : Stretch) (hi end : ℕ) → ranges.Absorbs old new hi end → new ≡ x ∷ rest → x.lo ≤ end → ranges.Absorbs old rest hi (max end x.hi)
absorbs_more old new rest x hi end h e begins =
    let left : drop h.removed old ≡ x ∷ rest = sym h.is ∙ e in
    let back : (P : Stretch → Type 0) → All P old → P x = λ P all. All-head P x rest (subst (All P) left (All-drop P h.removed old all)) in
    record {
      removed = h.removed + 1;
      within = (let a = place_of_first old rest x h.removed left in omega arith);
      is = drop_step old rest x h.removed left;
      onward = (let a = h.onward in omega arith);
      same = λ none. absurd (omega arith);
      met = λ some. elim (cases_lt 0 h.removed) [
        | inl lt ↦ h.met lt
        | inr ge ↦
            let none : h.removed ≡ 0 = omega arith in
            let first = first_of old rest x (ap (λ n. drop n old) (sym none) ∙ left) in
            let end_here = h.same none in
            let begin_here = first.1 in
            (first.0, omega arith)
      ];
      has = λ lo n le from.
          let low : lo ≤ x.lo = back (λ range. lo ≤ range.lo) from in
          takes_in lo x.lo end x.hi n (stretches.stretches_have rest n) low begins
          ∙ ap (λ l. stretches.stretches_have l n || (nat_le lo n && nat_lt n end)) (sym e)
          ∙ h.has lo n le from;
      ends = λ bound lt all.
          let here : x.hi < bound = back (λ range. range.hi < bound) all in
          let so_far = h.ends bound lt all in
          omega arith;
    }

-- a list without the element at a place
pub removed_at : (xs new : List Stretch) (place : ℕ) → place < length xs → new ≡ take place xs ++ drop (suc place) xs → (take place new ≡ take place xs) × (drop place new ≡ drop (place + 1) xs) × (length new + 1 ≡ length xs)
removed_at xs new place lt e =
    let size = length-take-le place xs (omega arith) in (
      ap (take place) e ∙ take_at (take place xs) (drop (suc place) xs) place size,
      ap (drop place) e ∙ drop_at (take place xs) (drop (suc place) xs) place size ∙ ap (λ n. drop n xs) (sym (add-one place)),
      (let a = ap length e in let b = length-append (take place xs) (drop (suc place) xs) in let c = length-drop (suc place) xs in omega arith),
    )

-- ---- ranges of which some in the middle are joined

-- of a union of three: the middle one and the last one are changed
unions : (before x x' r r' reached further joined : Bool) → x' ≡ (x || reached) → (r' || reached) ≡ (r || further) → (x || further) ≡ (x || joined) → (before || (x' || r')) ≡ ((before || (x || r)) || joined)
unions true x x' r r' reached further joined a b c = refl
unions false true x' r r' reached further joined a b c = rw a refl
unions false false x' r r' reached further joined a b c = ap (λ t. t || r') a ∙ or_comm reached r' ∙ b ∙ ap (λ t. r || t) c

pub three_have : (xs ys zs : List Stretch) (n : ℕ) → stretches.stretches_have (xs ++ (ys ++ zs)) n ≡ (stretches.stretches_have xs n || (stretches.stretches_have ys n || stretches.stretches_have zs n))
three_have xs ys zs n = list_any-append (stretches.stretch_has n) xs (ys ++ zs) ∙ ap (λ b. stretches.stretches_have xs n || b) (list_any-append (stretches.stretch_has n) ys zs)

pub replaced : (before x later x' later' : List Stretch) (lo hi further end : ℕ)
    → ranges.AreApart (before ++ (x ++ later)) → ranges.EndBefore lo before → All (λ range. lo ≤ range.lo) later → lo ≤ hi → hi ≤ further
    → ((n : ℕ) → (stretches.stretches_have x n || (nat_le lo n && nat_lt n further)) ≡ (stretches.stretches_have x n || (nat_le lo n && nat_lt n hi)))
    → ((bound : ℕ) → hi < bound → ranges.EndBefore bound x → further < bound)
    → ranges.Joins x x' lo end → ranges.Absorbs later later' further end → ranges.BeginPast end later'
    → ranges.Joins (before ++ (x ++ later)) (before ++ (x' ++ later')) lo hi
replaced before x later x' later' lo hi further end h ends from ordered onward same reach joins absorbs past =
    let rest : ranges.AreApart (x ++ later) = apart_right before (x ++ later) h in
    let out : AreFurther before (x ++ later) = apart_further before (x ++ later) h in
    let kept : (P : Stretch → Type 0) → All P later → All P later' = λ P all. subst (All P) (sym absorbs.is) (All-drop P absorbs.removed later all) in
    record {
      apart =
          apart_both before (x' ++ later') (apart_left before (x ++ later) h)
          (apart_both x' later' joins.apart (subst ranges.AreApart (sym absorbs.is) (apart_drop absorbs.removed later (apart_right x later rest)))
          (λ k d lt. joins.high (get_or later' k d).lo (past k d lt) (kept (λ range. ranges.EndBefore range.lo x) (apart_further x later rest) k d lt)))
          (All-append (λ range. ranges.EndBefore range.lo before) x' later'
          (λ k d lt i e short. joins.low (get_or before i e).hi (ends i e short) (λ j f within. all_left (λ range. ranges.EndBefore range.lo before) x later out j f within i e short) k d lt)
          (kept (λ range. ranges.EndBefore range.lo before) (all_right (λ range. ranges.EndBefore range.lo before) x later out)));
      has = λ n.
          three_have before x' later' n
          ∙ unions (stretches.stretches_have before n) (stretches.stretches_have x n) (stretches.stretches_have x' n) (stretches.stretches_have later n) (stretches.stretches_have later' n) (nat_le lo n && nat_lt n end) (nat_le lo n && nat_lt n further) (nat_le lo n && nat_lt n hi) (joins.has n) (absorbs.has lo n (omega arith) from) (same n)
          ∙ ap (λ b. b || (nat_le lo n && nat_lt n hi)) (sym (three_have before x later n));
      filled = (let a = joins.filled in let b = length-append before (x' ++ later') in let c = length-append x' later' in omega arith);
      low = λ bound lt all.
          let P : Stretch → Type 0 = λ range. bound < range.lo in
          let two = all_right P before (x ++ later) all in
          All-append P before (x' ++ later') (all_left P before (x ++ later) all) (All-append P x' later' (joins.low bound lt (all_left P x later two)) (kept P (all_right P x later two)));
      high = λ bound lt all.
          let P : Stretch → Type 0 = λ range. range.hi < bound in
          let two = all_right P before (x ++ later) all in
          let one = all_left P x later two in
          let after = all_right P x later two in
          let short = absorbs.ends bound (reach bound lt one) after in
          All-append P before (x' ++ later') (all_left P before (x ++ later) all) (All-append P x' later' (joins.high bound short one) (kept P after));
    }

-- one range is joined to no range
lone : (lo hi : ℕ) → ranges.IsRange (record { lo = lo; hi = hi }) → ranges.Joins [] (record { lo = lo; hi = hi } ∷ []) lo hi
lone lo hi h = record {
  apart = (h, All-nil (λ other. hi < other.lo), tt);
  has = λ n. grind (arith, nat_tests);
  filled = omega arith;
  low = λ bound lt all. All-cons (λ range. bound < range.lo) (record { lo = lo; hi = hi }) [] lt (All-nil (λ range. bound < range.lo));
  high = λ bound lt all. All-cons (λ range. range.hi < bound) (record { lo = lo; hi = hi }) [] lt (All-nil (λ range. range.hi < bound));
}

-- a range among others from which it lies apart
pub inserted : (xs new : List Stretch) (place lo hi : ℕ) → ranges.AreApart xs → ranges.AreParted lo xs place → ranges.BeginPast hi (drop place xs) → ranges.IsRange (record { lo = lo; hi = hi })
    → new ≡ take place xs ++ record { lo = lo; hi = hi } ∷ drop place xs → ranges.Joins xs new lo hi
inserted xs new place lo hi h parted past one e =
    let parts : take place xs ++ drop place xs ≡ xs = take-append-drop place xs in
    let some = one.some in
    subst (λ l. ranges.Joins l new lo hi) parts
    (subst (λ l. ranges.Joins (take place xs ++ drop place xs) l lo hi) (sym e)
    (replaced (take place xs) [] (drop place xs) (record { lo = lo; hi = hi } ∷ []) (drop place xs) lo hi hi hi (subst ranges.AreApart (sym parts) h) parted.before
    (λ k d lt. let later = past k d lt in omega arith) (omega arith) (omega arith) (λ n. refl) (λ bound lt all. lt) (lone lo hi one) (absorbs_none (drop place xs) hi) past))

-- two ranges that overlap or touch are one
wider : (from to lo hi end n : ℕ) → from ≤ hi → lo ≤ to → lo < hi → to ≤ end → hi ≤ end
    → (nat_le (min lo from) n && nat_lt n end) ≡ ((nat_le from n && nat_lt n to) || (nat_le lo n && nat_lt n end))
wider from to lo hi end n a b c d e = grind (arith, nat_tests)

reached : (from to lo hi n : ℕ) → from ≤ hi → lo ≤ to
    → ((nat_le from n && nat_lt n to) || (nat_le lo n && nat_lt n (max hi to))) ≡ ((nat_le from n && nat_lt n to) || (nat_le lo n && nat_lt n hi))
reached from to lo hi n a b = grind (arith, nat_tests)

or_none : (a b : Bool) → ((a || false) || b) ≡ (a || b)
or_none true b = refl
or_none false b = refl

or_last : (a b c : Bool) → a ≡ (b || c) → (a || false) ≡ ((b || false) || c)
or_last a true c e = rw e refl
or_last true false c e = e
or_last false false c e = e

-- a range that grows over the numbers from lo on and below hi, which overlap or touch it, takes in those behind it
grows : (x : Stretch) (lo hi end : ℕ) → ranges.IsRange x → ranges.IsRange (record { lo = lo; hi = hi }) → x.lo ≤ hi → lo ≤ x.hi → x.hi ≤ end → hi ≤ end → end < 2 ^ 63
    → ranges.Joins (x ∷ []) (record { lo = min lo x.lo; hi = end } ∷ []) lo end
grows x lo hi end here one begins ends over onward bounded =
    let a = here.positive in
    let b = one.positive in
    let c = here.some in
    let d = one.some in
    record {
      apart = (record { positive = omega arith; some = omega arith; bounded = bounded }, All-nil (λ other. end < other.lo), tt);
      has = λ n. or_last _ (stretches.stretch_has n x) (nat_le lo n && nat_lt n end) (wider x.lo x.hi lo hi end n begins ends d over onward);
      filled = omega arith;
      low = λ bound lt all. All-cons (λ range. bound < range.lo) (record { lo = min lo x.lo; hi = end }) [] (let e = All-head (λ range. bound < range.lo) x [] all in omega arith) (All-nil (λ range. bound < range.lo));
      high = λ bound lt all. All-cons (λ range. range.hi < bound) (record { lo = min lo x.lo; hi = end }) [] lt (All-nil (λ range. range.hi < bound));
    }

-- the same among others
pub grown : (xs later new : List Stretch) (x : Stretch) (place lo hi end : ℕ) → ranges.AreApart xs → place < length xs → x ≡ get_or xs place x → ranges.AreParted lo xs place → x.lo ≤ hi → ranges.IsRange (record { lo = lo; hi = hi })
    → ranges.Absorbs (drop (place + 1) xs) later (max hi x.hi) end → ranges.BeginPast end later
    → new ≡ take place xs ++ record { lo = min lo x.lo; hi = end } ∷ later → ranges.Joins xs new lo hi
grown xs later new x place lo hi end h lt is parted begins one absorbs past e =
    let split : xs ≡ take place xs ++ x ∷ drop (place + 1) xs = sym (take-append-drop place xs) ∙ ap (λ l. take place xs ++ l) (drop_more xs place x lt ∙ ap (λ (s : Stretch). s ∷ drop (place + 1) xs) (sym is)) in
    let whole = subst ranges.AreApart split h in
    let rest = apart_right (take place xs) (x ∷ drop (place + 1) xs) whole in
    let size = length-drop place xs in
    let first = first_from xs place x lt in
    let reaches : lo ≤ x.hi = (let a = parted.past 0 x (omega arith) in let b = ap (λ (s : Stretch). s.hi) first in let c = ap (λ (s : Stretch). s.hi) is in omega arith) in
    let some = one.some in
    let onward = absorbs.onward in
    let here = rest.0 in
    let bounded : end < 2 ^ 63 = absorbs.ends (2 ^ 63) (let a = here.bounded in let b = one.bounded in omega arith) (λ k d short. (are_ranges (drop (place + 1) xs) rest.2 k d short).bounded) in
    subst (λ l. ranges.Joins l new lo hi) (sym split)
    (subst (λ l. ranges.Joins (take place xs ++ x ∷ drop (place + 1) xs) l lo hi) (sym e)
    (replaced (take place xs) (x ∷ []) (drop (place + 1) xs) (record { lo = min lo x.lo; hi = end } ∷ []) later lo hi (max hi x.hi) end whole parted.before
    (λ k d short. let a = rest.1 k d short in omega arith) (omega arith) (omega arith)
    (λ n. or_none (stretches.stretch_has n x) _ ∙ reached x.lo x.hi lo hi n begins reaches ∙ sym (or_none (stretches.stretch_has n x) _))
    (λ bound short all. let a = All-head (λ range. range.hi < bound) x [] all in omega arith)
    (grows x lo hi end here one begins reaches (omega arith) (omega arith) bounded) absorbs past))

-- a range that takes in all numbers from lo on and below hi stays
pub unchanged : (xs : List Stretch) (x : Stretch) (place lo hi : ℕ) → ranges.AreApart xs → place < length xs → x ≡ get_or xs place x → x.lo ≤ lo → hi ≤ x.hi → lo < hi → ranges.Joins xs xs lo hi
unchanged xs x place lo hi h lt is begins ends some =
    let here : (P : Stretch → Type 0) → All P xs → P x = λ P all. subst P (sym is) (all place x lt) in
    record {
      apart = h;
      has = λ n. adds (stretches.stretches_have xs n) x.lo x.hi n (λ e. list_any_at (stretches.stretch_has n) xs place x lt (ap (stretches.stretch_has n) (sym is) ∙ e)) begins ends;
      filled = omega arith;
      low = λ bound short all. all;
      high = λ bound short all. all;
    }
  where
    adds : (b : Bool) (from to n : ℕ) → ((nat_le from n && nat_lt n to) ≡ true → b ≡ true) → from ≤ lo → hi ≤ to → b ≡ (b || (nat_le lo n && nat_lt n hi))
    adds true from to n f a c = refl
    adds false from to n f a c = grind (arith, nat_tests)

-- a write behind which nothing changed before
pub widened : (old mid : List Stretch) (place : ℕ) (w : Stretch) → take (place + 1) mid ≡ take (place + 1) old → place < length old → (set mid place w ≡ take place old ++ w ∷ drop (place + 1) mid) × (place < length mid)
widened old mid place w front lt =
    let sizes = sym (length-take (place + 1) mid) ∙ ap length front ∙ length-take (place + 1) old in
    let some : place < length mid = omega arith in
    let same : take place mid ≡ take place old = sym (take-take place (place + 1) mid (omega arith)) ∙ ap (take place) front ∙ take-take place (place + 1) old (omega arith) in (
      set_split mid place w some ∙ ap (λ n. take place mid ++ w ∷ drop n mid) (sym (add-one place)) ∙ ap (λ l. l ++ w ∷ drop (place + 1) mid) same,
      some,
    )

-- the range at a place begins up to a number
pub begun_here : (xs others : List Stretch) (x : Stretch) (place hi : ℕ) → place < length xs → ranges.IsBegun hi (drop place xs) others x → (d : Stretch) → (get_or xs place d).lo ≤ hi
begun_here xs others x place hi lt begun d =
    let first = ap (λ (s : Stretch). s.lo) (first_from xs place d lt) in
    let same = ap (λ l. (get_or l 0 d).lo) begun.is in
    let begins = begun.begins in
    omega arith

-- no range overlaps or touches what lies between two of them
pub clear_around : (lo hi place : ℕ) (xs : List Stretch) → ranges.AreParted lo xs place → ranges.BeginPast hi (drop place xs) → ranges.AreClear lo hi xs
clear_around lo hi place xs parted past =
    subst (ranges.AreClear lo hi) (take-append-drop place xs) (All-append (λ range. (range.hi < lo) ⊎ (hi < range.lo)) (take place xs) (drop place xs) (λ k d lt. inl (parted.before k d lt)) (λ k d lt. inr (past k d lt)))

-- what holds in any case holds after an error
pub on_err : {T E : Type 0} (r : Result T E) (P : Type 0) → P → OnErr r P
on_err (Ok x) P p = tt
on_err (Err e) P p = p

-- what follows from what holds after success, or after an error
pub ok_then : {T E : Type 0} {P Q : Type 0} (r : Result T E) → (P → Q) → OnOk r P → OnOk r Q
ok_then (Ok x) f p = f p
ok_then (Err e) f p = tt

pub err_then : {T E : Type 0} {P Q : Type 0} (r : Result T E) → (P → Q) → OnErr r P → OnErr r Q
err_then (Ok x) f p = tt
err_then (Err e) f p = f p

pub err_both : {T E : Type 0} {P Q S : Type 0} (r : Result T E) → (P → Q → S) → OnErr r P → OnErr r Q → OnErr r S
err_both (Ok x) f p q = tt
err_both (Err e) f p q = f p q

-- ranges that lie apart are not more than numbers
pub count_from : (xs : List Stretch) (from : ℕ) → ranges.AreApart xs → All (λ range. from ≤ range.lo) xs → from ≤ 2 ^ 63 → from + length xs ≤ 2 ^ 63
count_from [] from h all le = omega arith
count_from (x ∷ xs) from h all le =
    let first = All-head (λ range. from ≤ range.lo) x xs all in
    let some = h.0.some in
    let bounded = h.0.bounded in
    let rest = count_from xs (x.hi + 1) h.2 (λ k d lt. let later = h.1 k d lt in omega arith) (omega arith) in
    omega arith

-- no range has a number that overlaps or touches what is clear of all
pub clear_has : (xs : List Stretch) (lo hi n : ℕ) → ranges.AreClear lo hi xs → lo ≤ n + 1 → n ≤ hi → stretches.stretches_have xs n ≡ false
clear_has xs lo hi n clear from to =
    list_any_none (stretches.stretch_has n) xs (λ k d lt. elim (clear k d lt) [
      | inl ends ↦ past_it n (get_or xs k d).lo (get_or xs k d).hi (omega arith)
      | inr begins ↦ before_it n (get_or xs k d).lo (get_or xs k d).hi (omega arith)
    ])
  where
    past_it : (m from to : ℕ) → to ≤ m → (nat_le from m && nat_lt m to) ≡ false
    past_it m from to le = grind (arith, nat_tests)

    before_it : (m from to : ℕ) → m < from → (nat_le from m && nat_lt m to) ≡ false
    before_it m from to lt = grind (arith, nat_tests)

-- where the numbers overlap or touch a range, there is no range more
pub touching_fewer : (old new : List Stretch) (lo hi n : ℕ) → ranges.Counts old new lo hi → stretches.stretches_have old n ≡ true → lo ≤ n + 1 → n ≤ hi → length new ≤ length old
touching_fewer old new lo hi n (inl fewer) there from to = fewer
touching_fewer old new lo hi n (inr more) there from to = absurd (false≢true (sym (clear_has old lo hi n more.1 from to) ∙ there))
