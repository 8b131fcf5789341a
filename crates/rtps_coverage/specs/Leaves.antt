-- Ranges in leaves. own: a number is then added where it belongs, with no move of many ranges.
use Rattle.std.specs.Prelude.{ℕ, ◌<◌, ◌≤◌, ◌+◌, List, All, length, take}
use Rattle.std.specs.List.{flat_map, HoldsAt}
use Rattle.std.specs.Global.{Vec}
use Rattle.rtps_coverage.specs.Ranges as ranges
use Rattle.rtps_coverage.specs.declared.stretch.Stretch.{Stretch}

-- the ranges of all leaves
abbrev pub ranges_in : List (Vec Stretch) → List Stretch
ranges_in leaves = flat_map (λ leaf. leaf.items) leaves

-- no leaf is empty
abbrev pub AreFilled : List (Vec Stretch) → Type 0
AreFilled leaves = All (λ leaf. 0 < length leaf.items) leaves

-- and the ranges lie apart
pub record AreKept (leaves : List (Vec Stretch)) : Type 0 where
  pub filled : AreFilled leaves
  pub apart : ranges.AreApart (ranges_in leaves)

-- the leaves before a place end before a number; the one there does not, or it is the last one
pub record IsLeafFor (number : ℕ) (leaves : List (Vec Stretch)) (place : ℕ) : Type 0 where
  pub within : place < length leaves
  pub before : ranges.EndBefore number (ranges_in (take place leaves))
  pub here : place + 1 < length leaves → HoldsAt (λ leaf. number ≤ ranges.end_of leaf.items) leaves place
