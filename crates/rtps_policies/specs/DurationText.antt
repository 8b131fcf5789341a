-- How a duration is written. DDSI-RTPS 2.5, 9.3.2, for its parts. own: seconds with at most nine places, of which nothing is told that a
-- person need not read: what is behind nine is cut off, and so are zeros at the end.
use Rattle.std.specs.Prelude.{ℕ, ℤ, pos, negsuc, suc, zero, ◌/◌, ◌%◌, ◌^◌, ◌==◌, ◌&&◌, ◌++◌, Bool, if◌then◌else◌, List, [], ◌∷◌, codes, decimal}
use Rattle.std.specs.List.{concat}
use Rattle.std.specs.Ordering.{int_eq}
use Rattle.rtps_policies.specs.Durations as durations
use Rattle.rtps_policies.specs.declared.duration.Duration.{Duration}

-- the digits of so many places of a number, up to the last one that is not 0
abbrev pub places_of : ℕ → ℕ → List ℕ
places_of zero number = []
places_of (suc count) number = if number == 0 then [] else decimal (number / 10 ^ count) ++ places_of count (number % 10 ^ count)

-- nanoseconds behind a point; nothing where there are none
abbrev pub point_text : ℕ → List ℕ
point_text nanoseconds = if nanoseconds == 0 then [] else codes "." ++ places_of 9 nanoseconds

-- seconds that are not below 0, and what is behind the point
abbrev pub seconds_text : ℤ → ℕ → List ℕ
seconds_text (pos seconds) nanoseconds = concat (decimal seconds ∷ point_text nanoseconds ∷ codes " s" ∷ [])
seconds_text (negsuc n) nanoseconds = codes "negative"

-- DURATION_INFINITE
abbrev pub is_infinite : Duration → Bool
is_infinite duration = int_eq duration.seconds (pos 0x7fffffff) && (duration.fraction == 0xffffffff)

-- a duration in seconds; one word for an infinite one, and one for all below 0
unfoldable pub duration_text : Duration → List ℕ
duration_text duration = if is_infinite duration then codes "infinite" else seconds_text duration.seconds (durations.nanoseconds_of duration.fraction)
