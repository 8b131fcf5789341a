-- How many numbers have something. own: numbers go up to 2^63 - 1, so they are counted by stretches of them and never one by one.
use Rattle.std.specs.Prelude.{ℕ, Bool, ◌-◌, filter, length}
use Rattle.std.specs.List.{range_with_len}

-- how many of the numbers from lo on and below hi have it
abbrev pub count_in : (ℕ → Bool) → ℕ → ℕ → ℕ
count_in has lo hi = length (filter has (range_with_len lo (hi - lo)))
