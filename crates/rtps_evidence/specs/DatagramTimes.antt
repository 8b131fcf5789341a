-- The times of datagrams, as numbers of 64 bits. own: nearly each frame of a capture has a time, and hardly one has the greatest that
-- 64 bits hold, which is in the year 2554. So that number stands for no time.
use Rattle.std.specs.Prelude.{ℕ, ◌*◌, ◌-◌, ◌^◌, ◌≡◌, ◌<◌, ◌≤◌, nat_lt, if◌then◌else◌, length, map, slice_index_or, take, List, ◌++◌, Option, Some, None}
use Rattle.rtps_evidence.specs.Times as times_spec

-- the time that a number stands for
abbrev pub time_kept : ℕ → Option ℕ
time_kept number = if nat_lt number (2 ^ 64 - 1) then Some number else None

-- the number that stands for a time; None where none does
abbrev pub number_of : Option ℕ → Option ℕ
number_of None = Some (2 ^ 64 - 1)
number_of (Some time) = if nat_lt time (2 ^ 64 - 1) then Some time else None

-- the times that numbers stand for, and the times behind them
abbrev pub times_kept : List ℕ → List (Option ℕ) → List (Option ℕ)
times_kept numbers rest = map time_kept numbers ++ rest

-- the greatest of these times, and of those before each block of 1,024
pub record HasEnds (times : List (Option ℕ)) (latest : Option ℕ) (ends : List (Option ℕ)) : Type 0 where
  pub greatest : latest ≡ times_spec.end_of times
  pub size : length times ≤ 1024 * length ends
  pub each : (k : ℕ) → k < length ends → slice_index_or ends k None ≡ times_spec.end_of (take (1024 * k) times)
