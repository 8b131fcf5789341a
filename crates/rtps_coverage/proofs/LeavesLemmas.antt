-- Lemmas on ranges in leaves.
use Rattle.std.proofs.Common.{ℕ, Bool, true, false, ◌≡◌, ◌≤◌, ◌<◌, ◌+◌, ◌-◌, ◌^◌, ◌&&◌, ◌||◌, ◌⊎◌, nat_le, nat_lt, ltb, List, [], ◌∷◌, ◌++◌, All, length, take, drop, get_or, set, refl, sym, ap, ◌∙◌, subst, inl, inr, arith, add-one, append_assoc}
use Rattle.std.specs.Prelude.{zero, suc}
use Rattle.std.specs.Global.{Vec}
use Rattle.std.specs.List.{AllWithin, HoldsAt}
use Rattle.std.specs.List.Sorted.{IsNonDecreasingBy}
use Rattle.std.proofs.Math.Bool.{or_comm, or-true}
use Rattle.std.proofs.lemmas.Bool.{cases_lt, ltb-true}
use Rattle.std.proofs.lemmas.Bool.Decides.{nat_tests}
use Rattle.std.proofs.lemmas.List.{append-nil, drop_more, drop_at, drop-drop, drop_all, drop-append-le, drop-set-lt, get_or-take, get_or_append_left, length-append, length-drop, length-set, length-take, length-take-le, set_split, take-take, take_all, take_at, take-append-drop, take-append-le, take_more, take-set}
use Rattle.std.proofs.lemmas.List.Concat.{flat_map-append}
use Rattle.std.proofs.lemmas.List.Elements.{All-nil, All-cons, All-head, All-tail, All-append, All-drop, All-take}
use Rattle.std.proofs.lemmas.List.Folds.{list_any-append}
use Rattle.rtps_coverage.specs.Stretches as stretches
use Rattle.rtps_coverage.specs.Ranges as ranges
use Rattle.rtps_coverage.specs.Leaves as leaves_spec
use Rattle.rtps_coverage.specs.declared.stretch.Stretch.{Stretch}
use Rattle.rtps_coverage.proofs.RangesLemmas.{all_end, clear_around, clear_has, count_from, all_left, all_right, apart_drop, apart_further, apart_left, apart_right, are_ranges, first_from, replaced, three_have}

-- ---- one leaf among the others

-- the leaves before a place, the one there, and those behind it
pub split_at : (leaves : List (Vec Stretch)) (place : ℕ) (d : Vec Stretch) → place < length leaves
    → leaves_spec.ranges_in leaves ≡ leaves_spec.ranges_in (take place leaves) ++ ((get_or leaves place d).items ++ leaves_spec.ranges_in (drop (place + 1) leaves))
split_at leaves place d lt =
    ap leaves_spec.ranges_in (sym (take-append-drop place leaves))
    ∙ flat_map-append (λ (leaf : Vec Stretch). leaf.items) (take place leaves) (drop place leaves)
    ∙ ap (λ l. leaves_spec.ranges_in (take place leaves) ++ leaves_spec.ranges_in l) (drop_more leaves place d lt)

pub split_after : (leaves : List (Vec Stretch)) (place : ℕ) → leaves_spec.ranges_in leaves ≡ leaves_spec.ranges_in (take place leaves) ++ leaves_spec.ranges_in (drop place leaves)
split_after leaves place = ap leaves_spec.ranges_in (sym (take-append-drop place leaves)) ∙ flat_map-append (λ (leaf : Vec Stretch). leaf.items) (take place leaves) (drop place leaves)

-- what holds of the ranges of all leaves holds of those of one
pub all_in_leaf : (P : Stretch → Type 0) (leaves : List (Vec Stretch)) (place : ℕ) (d : Vec Stretch) → place < length leaves → All P (leaves_spec.ranges_in leaves) → All P (get_or leaves place d).items
all_in_leaf P leaves place d lt all =
    all_left P (get_or leaves place d).items _ (all_right P (leaves_spec.ranges_in (take place leaves)) _ (subst (All P) (split_at leaves place d lt) all))

pub leaf_apart : (leaves : List (Vec Stretch)) (place : ℕ) (d : Vec Stretch) → place < length leaves → ranges.AreApart (leaves_spec.ranges_in leaves) → ranges.AreApart (get_or leaves place d).items
leaf_apart leaves place d lt h =
    apart_left (get_or leaves place d).items _ (apart_right (leaves_spec.ranges_in (take place leaves)) _ (subst ranges.AreApart (split_at leaves place d lt) h))

-- the last range of a leaf that is not empty
last_in : (xs : List Stretch) → ranges.AreApart xs → 0 < length xs → ranges.IsRange (get_or xs (length xs - 1) ranges.no_range)
last_in xs h some = are_ranges xs h (length xs - 1) ranges.no_range (omega arith)

-- ---- how many leaves end before a number

pub leaves_rise : (leaves : List (Vec Stretch)) → leaves_spec.AreFilled leaves → ranges.AreApart (leaves_spec.ranges_in leaves) → IsNonDecreasingBy (λ (leaf : Vec Stretch). ranges.end_of leaf.items) leaves
leaves_rise [] filled h i j d le lt = absurd (omega arith)
leaves_rise (x ∷ xs) filled h zero zero d le lt = omega arith
leaves_rise (x ∷ xs) filled h zero (suc j) d le lt =
    let leaf = (get_or xs j d).items in
    let further = apart_further x.items (leaves_spec.ranges_in xs) h in
    let some = All-head (λ (leaf : Vec Stretch). 0 < length leaf.items) x xs filled in
    let some' = All-tail (λ (leaf : Vec Stretch). 0 < length leaf.items) x xs filled j d (omega arith) in
    let there = all_in_leaf (λ range. ranges.EndBefore range.lo x.items) xs j d (omega arith) further in
    let below = there (length leaf - 1) ranges.no_range (omega arith) (length x.items - 1) ranges.no_range (omega arith) in
    let range = (last_in leaf (leaf_apart xs j d (omega arith) (apart_right x.items (leaves_spec.ranges_in xs) h)) some').some in
    omega arith
leaves_rise (x ∷ xs) filled h (suc i) zero d le lt = absurd (omega arith)
leaves_rise (x ∷ xs) filled h (suc i) (suc j) d le lt =
    leaves_rise xs (All-tail (λ (leaf : Vec Stretch). 0 < length leaf.items) x xs filled) (apart_right x.items (leaves_spec.ranges_in xs) h) i j d (omega arith) (omega arith)

-- where each leaf ends before a number, each range does
all_leaves_end : (number : ℕ) (leaves : List (Vec Stretch)) → leaves_spec.AreFilled leaves → ranges.AreApart (leaves_spec.ranges_in leaves) → All (λ (leaf : Vec Stretch). ranges.end_of leaf.items < number) leaves → ranges.EndBefore number (leaves_spec.ranges_in leaves)
all_leaves_end number [] filled h ends = All-nil (λ range. range.hi < number)
all_leaves_end number (x ∷ xs) filled h ends =
    let some = All-head (λ (leaf : Vec Stretch). 0 < length leaf.items) x xs filled in
    let ends_here = All-head (λ (leaf : Vec Stretch). ranges.end_of leaf.items < number) x xs ends in
    All-append (λ range. range.hi < number) x.items (leaves_spec.ranges_in xs)
    (all_end number x.items ranges.no_range (apart_left x.items (leaves_spec.ranges_in xs) h) some ends_here)
    (all_leaves_end number xs (All-tail (λ (leaf : Vec Stretch). 0 < length leaf.items) x xs filled) (apart_right x.items (leaves_spec.ranges_in xs) h) (All-tail (λ (leaf : Vec Stretch). ranges.end_of leaf.items < number) x xs ends))

pub front_ends : (number count : ℕ) (leaves : List (Vec Stretch)) → leaves_spec.AreKept leaves → count ≤ length leaves → AllWithin (λ (leaf : Vec Stretch). ltb (ranges.end_of leaf.items) number ≡ true) leaves 0 count → ranges.EndBefore number (leaves_spec.ranges_in (take count leaves))
front_ends number count leaves h within low =
    all_leaves_end number (take count leaves) (All-take (λ (leaf : Vec Stretch). 0 < length leaf.items) count leaves h.filled)
    (apart_left (leaves_spec.ranges_in (take count leaves)) (leaves_spec.ranges_in (drop count leaves)) (subst ranges.AreApart (split_after leaves count) h.apart))
    (λ k d lt.
    let size = length-take-le count leaves within in
    let below : k < count = omega arith in
    subst (λ (leaf : Vec Stretch). ranges.end_of leaf.items < number) (sym (get_or-take count leaves k d below)) (ltb-true _ _ (low k d (omega arith) below)))

-- ---- the leaf for a number

pub last_leaf : (number : ℕ) (leaves : List (Vec Stretch)) (d : Vec Stretch) → leaves_spec.AreKept leaves → 0 < length leaves → ranges.begin_of (get_or leaves (length leaves - 1) d).items ≤ number → leaves_spec.IsLeafFor number leaves (length leaves - 1)
last_leaf number leaves d h some begins =
    let place = length leaves - 1 in
    let leaf = (get_or leaves place d).items in
    let lt : place < length leaves = omega arith in
    let filled : 0 < length leaf = h.filled place d lt in
    let split = subst ranges.AreApart (split_at leaves place d lt) h.apart in
    let further = apart_further (leaves_spec.ranges_in (take place leaves)) (leaf ++ leaves_spec.ranges_in (drop (place + 1) leaves)) split in
    let here = all_left (λ range. ranges.EndBefore range.lo (leaves_spec.ranges_in (take place leaves))) leaf (leaves_spec.ranges_in (drop (place + 1) leaves)) further in
    record {
      within = lt;
      before = λ k e short. let below = here 0 ranges.no_range filled k e short in omega arith;
      here = λ more. absurd (omega arith);
    }

pub other_leaf : (number count : ℕ) (leaves : List (Vec Stretch)) (d : Vec Stretch) → leaves_spec.AreKept leaves → 0 < length leaves → number < ranges.begin_of (get_or leaves (length leaves - 1) d).items
    → count ≤ length leaves → ranges.EndBefore number (leaves_spec.ranges_in (take count leaves)) → (count < length leaves → HoldsAt (λ (leaf : Vec Stretch). number ≤ ranges.end_of leaf.items) leaves count) → leaves_spec.IsLeafFor number leaves count
other_leaf number count leaves d h some begins within before past =
    elim (cases_lt count (length leaves)) [
      | inl lt ↦ record { within = lt; before = before; here = λ more. past lt }
      | inr ge ↦
          let place = length leaves - 1 in
          let lt : place < length leaves = omega arith in
          let leaf = (get_or leaves place d).items in
          let filled : 0 < length leaf = h.filled place d lt in
          let all = subst (λ l. ranges.EndBefore number (leaves_spec.ranges_in l)) (take_all count leaves ge) before in
          let ends = all_in_leaf (λ range. range.hi < number) leaves place d lt all 0 ranges.no_range filled in
          let range = (are_ranges leaf (leaf_apart leaves place d lt h.apart) 0 ranges.no_range filled).some in
          absurd (omega arith)
    ]

-- ---- ranges that are taken out of leaves

-- the two last ones of three tests change places
or_swap : (a b c : Bool) → ((a || b) || c) ≡ ((a || c) || b)
or_swap true b c = refl
or_swap false b c = or_comm b c

have_both : (xs ys : List Stretch) (n : ℕ) → stretches.stretches_have (xs ++ ys) n ≡ (stretches.stretches_have xs n || stretches.stretches_have ys n)
have_both xs ys n = list_any-append (stretches.stretch_has n) xs ys

pub absorbs_first : (old x rest x' : List Stretch) (hi end end' : ℕ) → ranges.Absorbs old (x ++ rest) hi end → ranges.Absorbs x x' end end' → ranges.Absorbs old (x' ++ rest) hi end'
absorbs_first old x rest x' hi end end' h k =
    let size = length-append x rest in
    let left = sym size ∙ ap length h.is ∙ length-drop h.removed old in
    let a = h.within in
    let b = k.within in
    let there : (P : Stretch → Type 0) → All P old → All P (x ++ rest) = λ P all. subst (All P) (sym h.is) (All-drop P h.removed old all) in
    record {
      removed = h.removed + k.removed;
      within = omega arith;
      is = ap (λ l. l ++ rest) k.is ∙ sym (drop-append-le k.removed x rest b) ∙ ap (drop k.removed) h.is ∙ drop-drop k.removed h.removed old;
      onward = (let c = h.onward in let e = k.onward in omega arith);
      same = λ none. let c = h.same (omega arith) in let e = k.same (omega arith) in omega arith;
      met = λ some. elim (cases_lt 0 h.removed) [
        | inl lt ↦ h.met lt
        | inr ge ↦
            let none : h.removed ≡ 0 = omega arith in
            let met = k.met (omega arith) in
            let filled = met.0 in
            let begins = met.1 in
            let same = h.same none in
            let whole : x ++ rest ≡ old = h.is ∙ ap (λ n. drop n old) none in
            let first : ranges.begin_of old ≡ ranges.begin_of x = sym (ap ranges.begin_of whole) ∙ ap (λ (s : Stretch). s.lo) (get_or_append_left x rest ranges.no_range 0 filled) in
            let count = ap length whole in
            (omega arith, omega arith)
      ];
      has = λ lo n le from.
          let here = k.has lo n (let c = h.onward in omega arith) (all_left (λ range. lo ≤ range.lo) x rest (there (λ range. lo ≤ range.lo) from)) in
          ap (λ b. b || (nat_le lo n && nat_lt n end')) (have_both x' rest n)
          ∙ or_swap (stretches.stretches_have x' n) (stretches.stretches_have rest n) (nat_le lo n && nat_lt n end')
          ∙ ap (λ b. b || stretches.stretches_have rest n) here
          ∙ sym (or_swap (stretches.stretches_have x n) (stretches.stretches_have rest n) (nat_le lo n && nat_lt n end))
          ∙ ap (λ b. b || (nat_le lo n && nat_lt n end)) (sym (have_both x rest n))
          ∙ h.has lo n le from;
      ends = λ bound lt all. k.ends bound (h.ends bound lt all) (all_left (λ range. range.hi < bound) x rest (there (λ range. range.hi < bound) all));
    }

-- where the first ranges begin past a number, so do those behind them
pub past_both : (number : ℕ) (xs ys : List Stretch) → 0 < length xs → ranges.AreApart (xs ++ ys) → ranges.BeginPast number xs → ranges.BeginPast number (xs ++ ys)
past_both number xs ys some h past =
    let first = past 0 ranges.no_range some in
    let range = (are_ranges xs (apart_left xs ys h) 0 ranges.no_range some).some in
    let further = apart_further xs ys h in
    All-append (λ range. number < range.lo) xs ys past (λ k d lt. let later = further k d lt 0 ranges.no_range some in omega arith)

-- a write to a leaf
pub written : (leaves : List (Vec Stretch)) (place : ℕ) (leaf : Vec Stretch) → place < length leaves
    → leaves_spec.ranges_in (set leaves place leaf) ≡ leaves_spec.ranges_in (take place leaves) ++ (leaf.items ++ leaves_spec.ranges_in (drop (place + 1) leaves))
written leaves place leaf lt =
    ap leaves_spec.ranges_in (set_split leaves place leaf lt)
    ∙ flat_map-append (λ (l : Vec Stretch). l.items) (take place leaves) (leaf ∷ drop (suc place) leaves)
    ∙ ap (λ n. leaves_spec.ranges_in (take place leaves) ++ (leaf.items ++ leaves_spec.ranges_in (drop n leaves))) (sym (add-one place))

-- the same from its place on
pub written_from : (leaves : List (Vec Stretch)) (place : ℕ) (leaf : Vec Stretch) → place < length leaves → leaves_spec.ranges_in (drop place (set leaves place leaf)) ≡ leaf.items ++ leaves_spec.ranges_in (drop (place + 1) leaves)
written_from leaves place leaf lt =
    let size = length-take-le place leaves (omega arith) in
    ap (λ l. leaves_spec.ranges_in (drop place l)) (set_split leaves place leaf lt)
    ∙ ap leaves_spec.ranges_in (drop_at (take place leaves) (leaf ∷ drop (suc place) leaves) place size)
    ∙ ap (λ n. leaf.items ++ leaves_spec.ranges_in (drop n leaves)) (sym (add-one place))

pub from_place : (leaves : List (Vec Stretch)) (place : ℕ) (d : Vec Stretch) → place < length leaves → leaves_spec.ranges_in (drop place leaves) ≡ (get_or leaves place d).items ++ leaves_spec.ranges_in (drop (place + 1) leaves)
from_place leaves place d lt = ap leaves_spec.ranges_in (drop_more leaves place d lt)

-- ---- numbers that are joined in the leaf for them

-- what stays where the first leaves do
pub same_front : (old mid : List (Vec Stretch)) (place : ℕ) → take (place + 1) mid ≡ take (place + 1) old → place < length old → (place < length mid) × (take place mid ≡ take place old)
same_front old mid place front lt =
    let sizes = sym (length-take (place + 1) mid) ∙ ap length front ∙ length-take (place + 1) old in (
      omega arith,
      sym (take-take place (place + 1) mid (omega arith)) ∙ ap (take place) front ∙ take-take place (place + 1) old (omega arith),
    )

pub same_leaf : (old mid : List (Vec Stretch)) (place : ℕ) (d : Vec Stretch) → take (place + 1) mid ≡ take (place + 1) old → get_or mid place d ≡ get_or old place d
same_leaf old mid place d front = sym (get_or-take (place + 1) mid place d (omega arith)) ∙ ap (λ l. get_or l place d) front ∙ get_or-take (place + 1) old place d (omega arith)

-- the ranges of later leaves begin past the last range of a leaf
later_begin : (leaves : List (Vec Stretch)) (place : ℕ) (d : Vec Stretch) → leaves_spec.AreKept leaves → place < length leaves → ranges.BeginPast (ranges.end_of (get_or leaves place d).items) (leaves_spec.ranges_in (drop (place + 1) leaves))
later_begin leaves place d h lt k e short =
    let x = (get_or leaves place d).items in
    let later = leaves_spec.ranges_in (drop (place + 1) leaves) in
    let some : 0 < length x = h.filled place d lt in
    apart_further x later (apart_right (leaves_spec.ranges_in (take place leaves)) (x ++ later) (subst ranges.AreApart (split_at leaves place d lt) h.apart)) k e short (length x - 1) ranges.no_range (omega arith)

-- where there are such ranges, there is a later leaf
later_there : (leaves : List (Vec Stretch)) (place : ℕ) → 0 < length (leaves_spec.ranges_in (drop (place + 1) leaves)) → place + 1 < length leaves
later_there leaves place some =
    elim (cases_lt (place + 1) (length leaves)) [
      | inl lt ↦ lt
      | inr ge ↦ let none = ap (λ l. length (leaves_spec.ranges_in l)) (drop_all (place + 1) leaves ge) in absurd (omega arith)
    ]

-- these begin past the number that the leaf is for
later_from : (leaves : List (Vec Stretch)) (place number : ℕ) (d : Vec Stretch) → leaves_spec.AreKept leaves → leaves_spec.IsLeafFor number leaves place → All (λ range. number ≤ range.lo) (leaves_spec.ranges_in (drop (place + 1) leaves))
later_from leaves place number d h leaf k e short =
    let more = later_there leaves place (omega arith) in
    let ends = leaf.here more d in
    let begins = later_begin leaves place d h leaf.within k e short in
    omega arith

-- nothing is taken out where the numbers lie apart from the ranges of the leaf
none_taken : (leaves : List (Vec Stretch)) (place lo hi end : ℕ) (d : Vec Stretch) (new : List Stretch) → leaves_spec.AreKept leaves → leaves_spec.IsLeafFor lo leaves place
    → (absorbs : ranges.Absorbs (leaves_spec.ranges_in (drop (place + 1) leaves)) new hi end) → ranges.AreClear lo end (get_or leaves place d).items → absorbs.removed ≡ 0
none_taken leaves place lo hi end d new h leaf absorbs clear =
    elim (cases_lt 0 absorbs.removed) [
      | inr ge ↦ omega arith
      | inl lt ↦
          let x = (get_or leaves place d).items in
          let some : 0 < length x = h.filled place d leaf.within in
          let met = absorbs.met lt in
          let there = met.0 in
          let begins = met.1 in
          let more = later_there leaves place there in
          let ends = leaf.here more d in
          let first = later_begin leaves place d h leaf.within 0 ranges.no_range there in
          let last = (last_in x (leaf_apart leaves place d leaf.within h.apart) some).some in
          let onward = absorbs.onward in
          elim (clear (length x - 1) ranges.no_range (omega arith)) [
            | inl before ↦ absurd (omega arith)
            | inr after ↦ absurd (omega arith)
          ]
    ]

untaken : (old new : List Stretch) (hi end : ℕ) (absorbs : ranges.Absorbs old new hi end) → absorbs.removed ≡ 0 → new ≡ old
untaken old new hi end absorbs none = absorbs.is ∙ ap (λ n. drop n old) none

-- so the numbers lie apart from the ranges of all leaves
pub clear_of_all : (leaves : List (Vec Stretch)) (place lo hi end : ℕ) (d : Vec Stretch) (new : List Stretch) → leaves_spec.AreKept leaves → leaves_spec.IsLeafFor lo leaves place
    → ranges.Absorbs (leaves_spec.ranges_in (drop (place + 1) leaves)) new hi end → ranges.BeginPast end new → ranges.AreClear lo end (get_or leaves place d).items → ranges.AreClear lo hi (leaves_spec.ranges_in leaves)
clear_of_all leaves place lo hi end d new h leaf absorbs past clear =
    let x = (get_or leaves place d).items in
    let later = leaves_spec.ranges_in (drop (place + 1) leaves) in
    let P : Stretch → Type 0 = λ range. (range.hi < lo) ⊎ (hi < range.lo) in
    let onward = absorbs.onward in
    let beyond = subst (ranges.BeginPast end) (untaken later new hi end absorbs (none_taken leaves place lo hi end d new h leaf absorbs clear)) past in
    subst (All P) (sym (split_at leaves place d leaf.within))
    (All-append P (leaves_spec.ranges_in (take place leaves)) (x ++ later) (λ k e lt. inl (leaf.before k e lt))
    (All-append P x later
    (λ k e lt. elim (clear k e lt) [ inl before ↦ inl before | inr after ↦ inr (omega arith) ])
    (λ k e lt. let after = beyond k e lt in inr (omega arith))))

-- the leaves after the first step: those up to the place are as before, and of the later ones the first ranges are taken out
pub record IsMid (old mid : List (Vec Stretch)) (place hi end : ℕ) : Type 0 where
  pub front : take (place + 1) mid ≡ take (place + 1) old
  pub absorbs : ranges.Absorbs (leaves_spec.ranges_in (drop (place + 1) old)) (leaves_spec.ranges_in (drop (place + 1) mid)) hi end
  pub past : ranges.BeginPast end (leaves_spec.ranges_in (drop (place + 1) mid))

-- all ranges, once the leaf is another one
after_write : (old mid : List (Vec Stretch)) (place hi end : ℕ) (leaf : Vec Stretch) → place < length old → IsMid old mid place hi end
    → leaves_spec.ranges_in (set mid place leaf) ≡ leaves_spec.ranges_in (take place old) ++ (leaf.items ++ leaves_spec.ranges_in (drop (place + 1) mid))
after_write old mid place hi end leaf lt is =
    let same = same_front old mid place is.front lt in
    written mid place leaf same.0 ∙ ap (λ l. leaves_spec.ranges_in l ++ (leaf.items ++ leaves_spec.ranges_in (drop (place + 1) mid))) same.1

pub end_bounded : (old mid : List (Vec Stretch)) (place lo hi end : ℕ) (d : Vec Stretch) → leaves_spec.AreKept old → place < length old → ranges.IsRange (record { lo = lo; hi = hi }) → IsMid old mid place hi end → ranges.IsRange (record { lo = lo; hi = end })
end_bounded old mid place lo hi end d h lt one is =
    let later = leaves_spec.ranges_in (drop (place + 1) old) in
    let some = one.some in
    let onward = is.absorbs.onward in
    let rest = apart_right (get_or old place d).items later (apart_right (leaves_spec.ranges_in (take place old)) ((get_or old place d).items ++ later) (subst ranges.AreApart (split_at old place d lt) h.apart)) in
    record {
      positive = one.positive;
      some = omega arith;
      bounded = is.absorbs.ends (2 ^ 63) one.bounded (λ k e short. (are_ranges later rest k e short).bounded);
    }

pub joined : (old mid : List (Vec Stretch)) (place lo hi end : ℕ) (d leaf : Vec Stretch) → leaves_spec.AreKept old → leaves_spec.IsLeafFor lo old place → ranges.IsRange (record { lo = lo; hi = hi }) → IsMid old mid place hi end
    → ranges.Joins (get_or old place d).items leaf.items lo end → ranges.Joins (leaves_spec.ranges_in old) (leaves_spec.ranges_in (set mid place leaf)) lo hi
joined old mid place lo hi end d leaf h for one is joins =
    let x = (get_or old place d).items in
    let before = leaves_spec.ranges_in (take place old) in
    let later = leaves_spec.ranges_in (drop (place + 1) old) in
    let later' = leaves_spec.ranges_in (drop (place + 1) mid) in
    let split = split_at old place d for.within in
    let some = one.some in
    subst (λ l. ranges.Joins (leaves_spec.ranges_in old) l lo hi) (sym (after_write old mid place hi end leaf for.within is))
    (subst (λ l. ranges.Joins l (before ++ (leaf.items ++ later')) lo hi) (sym split)
    (replaced before x later leaf.items later' lo hi hi end (subst ranges.AreApart split h.apart) for.before (later_from old place lo d h for) (omega arith) (omega arith) (λ n. refl) (λ bound lt all. lt) joins is.absorbs is.past))

pub counted : (old mid : List (Vec Stretch)) (place lo hi end : ℕ) (d leaf : Vec Stretch) → leaves_spec.AreKept old → leaves_spec.IsLeafFor lo old place → IsMid old mid place hi end
    → ranges.Counts (get_or old place d).items leaf.items lo end → ranges.Counts (leaves_spec.ranges_in old) (leaves_spec.ranges_in (set mid place leaf)) lo hi
counted old mid place lo hi end d leaf h for is counts =
    let x = (get_or old place d).items in
    let before = leaves_spec.ranges_in (take place old) in
    let later = leaves_spec.ranges_in (drop (place + 1) old) in
    let later' = leaves_spec.ranges_in (drop (place + 1) mid) in
    let was = ap length (split_at old place d for.within) ∙ length-append before (x ++ later) in
    let was' = length-append x later in
    let now = ap length (after_write old mid place hi end leaf for.within is) ∙ length-append before (leaf.items ++ later') in
    let now' = length-append leaf.items later' in
    let left = ap length is.absorbs.is ∙ length-drop is.absorbs.removed later in
    elim counts [
      | inl fewer ↦ inl (omega arith)
      | inr more ↦
          let one = more.0 in
          let none = none_taken old place lo hi end d later' h for is.absorbs more.1 in
          inr (omega arith, clear_of_all old place lo hi end d later' h for is.absorbs is.past more.1)
    ]

pub untouched : (old mid : List (Vec Stretch)) (place lo hi end : ℕ) (d leaf : Vec Stretch) → leaves_spec.AreKept old → leaves_spec.IsLeafFor lo old place → IsMid old mid place hi end
    → ranges.AreClear lo end (get_or old place d).items → leaf.items ≡ (get_or old place d).items → leaves_spec.ranges_in (set mid place leaf) ≡ leaves_spec.ranges_in old
untouched old mid place lo hi end d leaf h for is clear same =
    let x = (get_or old place d).items in
    let before = leaves_spec.ranges_in (take place old) in
    let later = leaves_spec.ranges_in (drop (place + 1) old) in
    let later' = leaves_spec.ranges_in (drop (place + 1) mid) in
    after_write old mid place hi end leaf for.within is
    ∙ ap (λ l. before ++ (l ++ later')) same
    ∙ ap (λ l. before ++ (x ++ l)) (untaken later later' hi end is.absorbs (none_taken old place lo hi end d later' h for is.absorbs clear))
    ∙ sym (split_at old place d for.within)

-- ---- a leaf in halves

-- the leaf that is halved stays where it is
pub inserted_leaf : (leaves : List (Vec Stretch)) (place : ℕ) (upper d : Vec Stretch) → place < length leaves → get_or (take (place + 1) leaves ++ upper ∷ drop (place + 1) leaves) place d ≡ get_or leaves place d
inserted_leaf leaves place upper d lt =
    let size = length-take-le (place + 1) leaves (omega arith) in
    get_or_append_left (take (place + 1) leaves) (upper ∷ drop (place + 1) leaves) d place (omega arith) ∙ get_or-take (place + 1) leaves place d (omega arith)

pub halved : (leaves : List (Vec Stretch)) (place half : ℕ) (d upper leaf : Vec Stretch) → place < length leaves → upper.items ≡ drop half (get_or leaves place d).items → leaf.items ≡ take half (get_or leaves place d).items
    → leaves_spec.ranges_in (set (take (place + 1) leaves ++ upper ∷ drop (place + 1) leaves) place leaf) ≡ leaves_spec.ranges_in leaves
halved leaves place half d upper leaf lt high low =
    let x = (get_or leaves place d).items in
    let front = take (place + 1) leaves in
    let more = front ++ upper ∷ drop (place + 1) leaves in
    let before = leaves_spec.ranges_in (take place leaves) in
    let later = leaves_spec.ranges_in (drop (place + 1) leaves) in
    let size = length-take-le (place + 1) leaves (omega arith) in
    let all = length-append front (upper ∷ drop (place + 1) leaves) in
    written more place leaf (omega arith)
    ∙ ap (λ l. leaves_spec.ranges_in l ++ (leaf.items ++ leaves_spec.ranges_in (drop (place + 1) more))) (take-append-le place front (upper ∷ drop (place + 1) leaves) (omega arith) ∙ take-take place (place + 1) leaves (omega arith))
    ∙ ap (λ l. before ++ (leaf.items ++ leaves_spec.ranges_in l)) (drop_at front (upper ∷ drop (place + 1) leaves) (place + 1) size)
    ∙ ap (λ l. before ++ (l ++ (upper.items ++ later))) low
    ∙ ap (λ l. before ++ (take half x ++ (l ++ later))) high
    ∙ ap (λ l. before ++ l) (sym (append_assoc (take half x) (drop half x) later))
    ∙ ap (λ l. before ++ (l ++ later)) (take-append-drop half x)
    ∙ sym (split_at leaves place d lt)

-- ---- the range that has a number

-- ranges that end up to a number have it not, and so those that begin past it
pub none_before : (number : ℕ) (xs : List Stretch) → ranges.EndBefore (number + 1) xs → stretches.stretches_have xs number ≡ false
none_before number xs ends = clear_has xs (number + 1) number number (λ k d lt. inl (ends k d lt)) (omega arith) (omega arith)

pub none_past : (number : ℕ) (xs : List Stretch) → ranges.BeginPast number xs → stretches.stretches_have xs number ≡ false
none_past number xs past = clear_has xs (number + 1) number number (λ k d lt. inr (past k d lt)) (omega arith) (omega arith)

-- no range of the leaf for a number has it, and so none of all
pub none_in : (leaves : List (Vec Stretch)) (place number count : ℕ) (d : Vec Stretch) → leaves_spec.AreKept leaves → leaves_spec.IsLeafFor (number + 1) leaves place → ranges.AreParted (number + 1) (get_or leaves place d).items count
    → ranges.BeginPast number (drop count (get_or leaves place d).items) → stretches.stretches_have (leaves_spec.ranges_in leaves) number ≡ false
none_in leaves place number count d h for parted past =
    let x = (get_or leaves place d).items in
    let before = leaves_spec.ranges_in (take place leaves) in
    let later = leaves_spec.ranges_in (drop (place + 1) leaves) in
    let here : stretches.stretches_have x number ≡ false = clear_has x (number + 1) number number (clear_around (number + 1) number count x parted past) (omega arith) (omega arith) in
    let after = none_past number later (λ k e lt. let from = later_from leaves place (number + 1) d h for k e lt in omega arith) in
    ap (λ l. stretches.stretches_have l number) (split_at leaves place d for.within)
    ∙ three_have before x later number
    ∙ rw (none_before number before for.before, here, after) refl

pub one_in : (leaves : List (Vec Stretch)) (place number count : ℕ) (d : Vec Stretch) (range : Stretch) → leaves_spec.AreKept leaves → leaves_spec.IsLeafFor (number + 1) leaves place → ranges.AreParted (number + 1) (get_or leaves place d).items count
    → count < length (get_or leaves place d).items → range ≡ get_or (get_or leaves place d).items count range → range.lo ≤ number → ranges.IsRangeWith (leaves_spec.ranges_in leaves) number range
one_in leaves place number count d range h for parted lt is begins =
    let x = (get_or leaves place d).items in
    let before = leaves_spec.ranges_in (take place leaves) in
    let later = leaves_spec.ranges_in (drop (place + 1) leaves) in
    let split : x ≡ take count x ++ range ∷ drop (count + 1) x = sym (take-append-drop count x) ∙ ap (λ l. take count x ++ l) (drop_more x count range lt ∙ ap (λ (s : Stretch). s ∷ drop (count + 1) x) (sym is)) in
    let size = length-drop count x in
    let first = parted.past 0 range (omega arith) in
    let same = ap (λ (s : Stretch). s.hi) (first_from x count range lt) in
    let here = ap (λ (s : Stretch). s.hi) is in
    record {
      before = before ++ take count x;
      after = drop (count + 1) x ++ later;
      is =
          split_at leaves place d for.within
          ∙ ap (λ l. before ++ (l ++ later)) split
          ∙ ap (λ l. before ++ l) (append_assoc (take count x) (range ∷ drop (count + 1) x) later)
          ∙ sym (append_assoc before (take count x) (range ∷ (drop (count + 1) x ++ later)));
      from = begins;
      to = omega arith;
    }

-- the end of a range is in none
pub end_outside : (all : List Stretch) (number : ℕ) (range : Stretch) → ranges.AreApart all → ranges.IsRangeWith all number range → stretches.stretches_have all range.hi ≡ false
end_outside all number range h with =
    let apart = subst ranges.AreApart with.is h in
    let rest = apart_right with.before (range ∷ with.after) apart in
    let some = rest.0.some in
    let first = apart_further with.before (range ∷ with.after) apart 0 range (omega arith) in
    ap (λ l. stretches.stretches_have l range.hi) with.is
    ∙ clear_has (with.before ++ range ∷ with.after) (range.hi + 1) range.hi range.hi
    (All-append (λ other. (other.hi < range.hi + 1) ⊎ (range.hi < other.lo)) with.before (range ∷ with.after)
    (λ k d lt. let ends = first k d lt in inl (omega arith))
    (All-cons (λ other. (other.hi < range.hi + 1) ⊎ (range.hi < other.lo)) range with.after (inl (omega arith)) (λ k d lt. inr (rest.1 k d lt))))
    (omega arith) (omega arith)

-- each number of a range is in one of all, and its end is in range
pub in_one : (all : List Stretch) (number n : ℕ) (range : Stretch) → ranges.IsRangeWith all number range → range.lo ≤ n → n < range.hi → stretches.stretches_have all n ≡ true
in_one all number n range one from to =
    ap (λ l. stretches.stretches_have l n) one.is
    ∙ have_both one.before (range ∷ one.after) n
    ∙ ap (λ b. stretches.stretches_have one.before n || (b || stretches.stretches_have one.after n)) (within range.lo range.hi from to)
    ∙ or-true (stretches.stretches_have one.before n)
  where
    within : (lo hi : ℕ) → lo ≤ n → n < hi → (nat_le lo n && nat_lt n hi) ≡ true
    within lo hi a b = grind (arith, nat_tests)

pub one_bounded : (all : List Stretch) (number : ℕ) (range : Stretch) → ranges.AreApart all → ranges.IsRangeWith all number range → range.hi < 2 ^ 63
one_bounded all number range h one =
    let rest = apart_right one.before (range ∷ one.after) (subst ranges.AreApart one.is h) in
    rest.0.bounded

-- ---- leaves that are taken out

-- what is left of the leaf and of those behind it lies apart
pub apart_rest : (x rest x' : List Stretch) (hi end : ℕ) → ranges.AreApart (x ++ rest) → ranges.Absorbs x x' hi end → ranges.AreApart (x' ++ rest)
apart_rest x rest x' hi end h k =
    subst ranges.AreApart (drop-append-le k.removed x rest k.within ∙ ap (λ l. l ++ rest) (sym k.is)) (apart_drop k.removed (x ++ rest) h)

-- the leaves without one that was written
pub emptied : (old new : List (Vec Stretch)) (place : ℕ) (leaf : Vec Stretch) → place < length old → new ≡ take place (set old place leaf) ++ drop (suc place) (set old place leaf)
    → (take place new ≡ take place old) × (drop place new ≡ drop (place + 1) old) × (length new + 1 ≡ length old)
emptied old new place leaf lt e =
    let size = length-set old place leaf in
    let short = length-take-le place (set old place leaf) (omega arith) in
    let a = ap length e in
    let b = length-append (take place (set old place leaf)) (drop (suc place) (set old place leaf)) in
    let d = length-drop (suc place) (set old place leaf) in (
      ap (take place) e ∙ take_at (take place (set old place leaf)) (drop (suc place) (set old place leaf)) place short ∙ take-set old place leaf,
      ap (drop place) e ∙ drop_at (take place (set old place leaf)) (drop (suc place) (set old place leaf)) place short ∙ ap (λ n. drop n (set old place leaf)) (sym (add-one place)) ∙ drop-set-lt (place + 1) old place leaf (omega arith),
      omega arith,
    )

-- ---- how many ranges the leaves have

pub count_more : (leaves : List (Vec Stretch)) (i : ℕ) (d : Vec Stretch) → i < length leaves → length (leaves_spec.ranges_in (take (i + 1) leaves)) ≡ length (leaves_spec.ranges_in (take i leaves)) + length (get_or leaves i d).items
count_more leaves i d lt =
    ap (λ l. length (leaves_spec.ranges_in l)) (take_more leaves i d lt)
    ∙ ap length (flat_map-append (λ (leaf : Vec Stretch). leaf.items) (take i leaves) (get_or leaves i d ∷ []))
    ∙ length-append (leaves_spec.ranges_in (take i leaves)) ((get_or leaves i d).items ++ [])
    ∙ ap (λ l. length (leaves_spec.ranges_in (take i leaves)) + length l) (append-nil (get_or leaves i d).items)

pub count_within : (leaves : List (Vec Stretch)) (i : ℕ) → leaves_spec.AreKept leaves → length (leaves_spec.ranges_in (take i leaves)) ≤ 2 ^ 63
count_within leaves i h =
    let front = leaves_spec.ranges_in (take i leaves) in
    let apart = apart_left front (leaves_spec.ranges_in (drop i leaves)) (subst ranges.AreApart (split_after leaves i) h.apart) in
    let bound = count_from front 0 apart (λ k d lt. omega arith) (omega arith) in
    omega arith
