-- The first of some numbers. own: ten of them are enough to look at, however many there are.
use Rattle.std.specs.Prelude.{ℕ, Bool, ◌≡◌, ◌++◌, ◌-◌, List, filter, length, replicate, take}
use Rattle.std.specs.List.{range_with_len}
use Rattle.rtps_evidence.specs.declared.first_numbers.FirstNumbers.{FirstNumbers}

-- the first ten of the numbers from lo on and below hi that have it, in their order
abbrev pub first_ten : (ℕ → Bool) → ℕ → ℕ → List ℕ
first_ten has lo hi = take 10 (filter has (range_with_len lo (hi - lo)))

-- the code's form of ten numbers at most: they stand in ten places, and zeros behind them
abbrev pub kept : List ℕ → FirstNumbers
kept numbers = record { places = numbers ++ replicate (10 - length numbers) 0; count = length numbers }

-- the numbers that it has
abbrev pub numbers_of : FirstNumbers → List ℕ
numbers_of first = take first.count first.places

-- ---- laws

-- it has exactly the numbers that are kept
abbrev pub KeptNumbersAreThere : Type 0
KeptNumbersAreThere = (numbers : List ℕ) → numbers_of (kept numbers) ≡ numbers
