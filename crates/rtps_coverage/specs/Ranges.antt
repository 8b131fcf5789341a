-- Ranges in the order of their numbers, of which no two overlap or touch.
-- own: so many ranges are kept as there are gaps between numbers, in whatever order the numbers came.
use Rattle.std.specs.Prelude.{ℕ, ◌≡◌, ◌≤◌, ◌<◌, ◌+◌, ◌-◌, ◌^◌, ◌||◌, ◌&&◌, ◌⊎◌, nat_le, nat_lt, List, [], ◌∷◌, ◌++◌, All, length, take, drop, slice_index_or}
use native.Mathlib.Bridge.{le_prop}
use mathlib.Core.HLevel.{Unit-prop}
use Rattle.rtps_coverage.specs.Stretches as stretches
use Rattle.rtps_coverage.specs.declared.stretch.Stretch.{Stretch}

-- a range that is not empty, of numbers that a set may have
pub record IsRange (range : Stretch) : Type 0 where
  pub positive : 1 ≤ range.lo
  pub some : range.lo < range.hi
  pub bounded : range.hi < 2 ^ 63

-- each later range begins past the end of it
abbrev pub AreApart : List Stretch → Type 0
AreApart [] = Unit {0}
AreApart (range ∷ later) = IsRange range × All (λ other. range.hi < other.lo) later × AreApart later

-- ---- these facts have one proof at most

is_range_prop : (range : Stretch) → IsProp (IsRange range)
is_range_prop range a b = λ i. record { positive = le_prop a.positive b.positive i; some = le_prop a.some b.some i; bounded = le_prop a.bounded b.bounded i }

-- that ranges lie apart has one proof at most
pub are_apart_prop : (ranges : List Stretch) → IsProp (AreApart ranges)
are_apart_prop [] a b = Unit-prop a b
are_apart_prop (range ∷ later) a b = λ i. (is_range_prop range a.0 b.0 i, λ k d lt. le_prop (a.1 k d lt) (b.1 k d lt) i, are_apart_prop later a.2 b.2 i)

-- ---- where ranges begin and end

-- each begins past a number
abbrev pub BeginPast : ℕ → List Stretch → Type 0
BeginPast number ranges = All (λ range. number < range.lo) ranges

-- each ends before a number
abbrev pub EndBefore : ℕ → List Stretch → Type 0
EndBefore number ranges = All (λ range. range.hi < number) ranges

-- no range overlaps or touches the numbers from lo on and below hi
abbrev pub AreClear : ℕ → ℕ → List Stretch → Type 0
AreClear lo hi ranges = All (λ range. (range.hi < lo) ⊎ (hi < range.lo)) ranges

-- the range without numbers, which stands for a range where there is none
abbrev pub no_range : Stretch
no_range = record { lo = 0; hi = 0 }

-- where the last range ends
abbrev pub end_of : List Stretch → ℕ
end_of ranges = (slice_index_or ranges (length ranges - 1) no_range).hi

-- where the first range begins
abbrev pub begin_of : List Stretch → ℕ
begin_of ranges = (slice_index_or ranges 0 no_range).lo

-- so many of the ranges end before a number, and the others do not
pub record AreParted (number : ℕ) (ranges : List Stretch) (count : ℕ) : Type 0 where
  pub within : count ≤ length ranges
  pub before : EndBefore number (take count ranges)
  pub past : All (λ range. number ≤ range.hi) (drop count ranges)

-- the first of the ranges begins up to a number, and these are the others
pub record IsBegun (number : ℕ) (ranges others : List Stretch) (range : Stretch) : Type 0 where
  pub is : ranges ≡ range ∷ others
  pub begins : range.lo ≤ number

-- the numbers below hi, from any number on that is not past the ranges, take in the first ones: then they reach to end
pub record Absorbs (old new : List Stretch) (hi end : ℕ) : Type 0 where
  pub removed : ℕ
  pub within : removed ≤ length old
  pub is : new ≡ drop removed old
  pub onward : hi ≤ end
  pub same : removed ≡ 0 → end ≡ hi
  pub met : 0 < removed → (0 < length old) × (begin_of old ≤ hi)
  pub has : (lo n : ℕ) → lo ≤ hi → All (λ range. lo ≤ range.lo) old
      → (stretches.stretches_have new n || (nat_le lo n && nat_lt n end)) ≡ (stretches.stretches_have old n || (nat_le lo n && nat_lt n hi))
  pub ends : (bound : ℕ) → hi < bound → EndBefore bound old → end < bound

-- the new ranges have the numbers of the old ones, and those from lo on and below hi
pub record Joins (old new : List Stretch) (lo hi : ℕ) : Type 0 where
  pub apart : AreApart new
  pub has : (n : ℕ) → stretches.stretches_have new n ≡ (stretches.stretches_have old n || (nat_le lo n && nat_lt n hi))
  pub filled : 0 < length new
  pub low : (bound : ℕ) → bound < lo → BeginPast bound old → BeginPast bound new
  pub high : (bound : ℕ) → hi < bound → EndBefore bound old → EndBefore bound new

-- it is one range more at most, and none where the numbers overlap or touch one
abbrev pub Counts : List Stretch → List Stretch → ℕ → ℕ → Type 0
Counts old new lo hi = (length new ≤ length old) ⊎ ((length new ≡ length old + 1) × AreClear lo hi old)

-- the range is one of these, and has a number
pub record IsRangeWith (all : List Stretch) (number : ℕ) (range : Stretch) : Type 0 where
  pub before : List Stretch
  pub after : List Stretch
  pub is : all ≡ before ++ range ∷ after
  pub from : range.lo ≤ number
  pub to : number < range.hi
