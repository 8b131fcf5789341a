-- When the datagrams of a recording came. own: DDSI-RTPS 2.5 gives a datagram no time of its own, but a capture has the time at which
-- it took each frame. Times are nanoseconds since 1970 began. A list of them has the time of each datagram in the order of sending,
-- None where it has none; datagrams count from 1.
use Rattle.std.specs.Prelude.{ℕ, Bool, true, false, ◌+◌, ◌-◌, ◌/◌, ◌^◌, ◌&&◌, nat_le, nat_lt, if◌then◌else◌, is_some, map, max, slice_get, slice_index_or, List, [], ◌∷◌, Option, Some, None}
use Rattle.std.specs.List.{list_any}
use Rattle.rtps_audit.specs.Delivery as delivery
use Rattle.rtps_evidence.specs.declared.times.Seconds.{Seconds}

-- the start of a capture, which is the time of the first frame that has one, its end, which is the greatest time of a frame, the time of
-- each datagram, and the number of the frame that gave or completed each. A frame counts whether it gave a datagram or not
pub record TimesValue : Type 0 where
  pub start : Option ℕ
  pub end : Option ℕ
  pub of_datagrams : List (Option ℕ)
  pub frames : List ℕ

-- those of a text
abbrev pub no_times : TimesValue
no_times = record { start = None; end = None; of_datagrams = []; frames = [] }

-- the time of a datagram; None of 0, and past the last
abbrev pub time_of : List (Option ℕ) → ℕ → Option ℕ
time_of times number = if nat_lt 0 number then slice_index_or times (number - 1) None else None

-- the frame of a datagram; None of 0, past the last, and of a text
abbrev pub frame_of : List ℕ → ℕ → Option ℕ
frame_of frames number = if nat_lt 0 number then slice_get frames (number - 1) else None

-- some datagram has a time
abbrev pub are_there : List (Option ℕ) → Bool
are_there times = list_any is_some times

-- ---- the greatest time

-- the later of two times, where there are two
abbrev pub later_of : Option ℕ → Option ℕ → Option ℕ
later_of None other = other
later_of (Some one) None = Some one
later_of (Some one) (Some other) = Some (max one other)

-- the greatest of these times
abbrev pub end_of : List (Option ℕ) → Option ℕ
end_of [] = None
end_of (time ∷ times) = later_of time (end_of times)

-- ---- how far apart

-- 100 ms or more lie between two times, the second behind the first; so it is said where one of them is wanting
abbrev pub is_long : Option ℕ → Option ℕ → Bool
is_long None later = true
is_long (Some earlier) None = true
is_long (Some earlier) (Some later) = nat_le (earlier + 10 ^ 8) later

-- the same of the times of two datagrams
abbrev pub is_long_between : List (Option ℕ) → ℕ → ℕ → Bool
is_long_between times earlier later = is_long (time_of times earlier) (time_of times later)

-- ---- times that go back

-- how much the time of a later datagram is before that of an earlier one; 0 where it is not
abbrev pub back_from : Option ℕ → Option ℕ → ℕ
back_from None later = 0
back_from (Some earlier) None = 0
back_from (Some earlier) (Some later) = earlier - later

-- the greatest of that, of all pairs of an earlier and a later datagram
abbrev pub step_back : List (Option ℕ) → ℕ
step_back [] = 0
step_back (time ∷ times) = max (delivery.greatest (map (back_from time) times)) (step_back times)

-- ---- a time that is said

-- whole milliseconds of so many nanoseconds
abbrev pub milliseconds_of : ℕ → ℕ
milliseconds_of nanoseconds = nanoseconds / 10 ^ 6

-- so many nanoseconds as they are said
abbrev pub seconds_of : ℕ → Seconds
seconds_of nanoseconds = record { negative = false; milliseconds = milliseconds_of nanoseconds }

-- how far two times are apart
abbrev pub apart : ℕ → ℕ → ℕ
apart one other = max (one - other) (other - one)

-- how long behind the start a time is, cut off towards zero; it is negative where it is before the start by a millisecond or more
abbrev pub seconds_between : ℕ → ℕ → Seconds
seconds_between start time =
    record {
      negative = nat_lt time start && nat_lt 0 (milliseconds_of (apart time start));
      milliseconds = milliseconds_of (apart time start);
    }

-- the same, where there is a start and a time
abbrev pub second_of : Option ℕ → Option ℕ → Option Seconds
second_of None time = None
second_of (Some start) None = None
second_of (Some start) (Some time) = Some (seconds_between start time)
