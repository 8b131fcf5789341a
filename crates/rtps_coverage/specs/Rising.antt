-- Stretches whose beginnings and ends rise. own: the greatest end of those that begin up to a key is then that of the last one,
-- so that one look finds it.
use Rattle.std.specs.Prelude.{ℕ, Bool, ◌&&◌, nat_le, nat_lt, List}
use Rattle.std.specs.List.{list_any}
use Rattle.std.specs.List.Sorted.{IsNonDecreasingBy}
use Rattle.rtps_coverage.specs.declared.stretch.Stretch.{Stretch}

-- a stretch begins up to a key, and ends past n
abbrev pub reaches : ℕ → ℕ → Stretch → Bool
reaches key n stretch = nat_le stretch.lo key && nat_lt n stretch.hi

-- some stretch does. With n as the key, it has n
abbrev pub some_reaches : List Stretch → ℕ → ℕ → Bool
some_reaches stretches key n = list_any (reaches key n) stretches

-- they stand in the order of their beginnings, and of their ends
pub record AreRising (stretches : List Stretch) : Type 0 where
  pub lo : IsNonDecreasingBy (λ stretch. stretch.lo) stretches
  pub hi : IsNonDecreasingBy (λ stretch. stretch.hi) stretches
