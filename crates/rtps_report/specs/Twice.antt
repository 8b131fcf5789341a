-- Whether two recordings are one. own: what is sent again has the same octets, so only a datagram that came at the same time is the same one.
-- A text has no times, so nothing says that two texts are of one recording.
use Rattle.std.specs.Prelude.{ℕ, Bool, false, ◌+◌, ◌==◌, ◌&&◌, List, Option, None, Some, length}
use Rattle.std.specs.Cmp.Lexicographic.{pointwise}
use Rattle.std.specs.List.{list_all, range_with_len}
use Rattle.std.specs.Str.{bytes_eq}
use Rattle.rtps_evidence.specs.Times as times
use Rattle.rtps_report.specs.Recording as recording

-- two times are known, and they are the same
abbrev pub is_same_time : Option ℕ → Option ℕ → Bool
is_same_time None other = false
is_same_time (Some one) None = false
is_same_time (Some one) (Some other) = one == other

-- so are those of each of the first datagrams, of so many
abbrev pub have_same_times : ℕ → List (Option ℕ) → List (Option ℕ) → Bool
have_same_times count one other = list_all (λ place. is_same_time (times.time_of one (place + 1)) (times.time_of other (place + 1))) (range_with_len 0 count)

-- the same datagrams came at the same times
abbrev pub are_one : recording.RecordingValue → recording.RecordingValue → Bool
are_one one other =
    have_same_times (length one.datagrams) one.times.of_datagrams other.times.of_datagrams && pointwise bytes_eq one.datagrams other.datagrams

-- the other recording, if there is one, is this one
abbrev pub is_twice : Option recording.RecordingValue → recording.RecordingValue → Bool
is_twice None recording = false
is_twice (Some other) recording = are_one recording other
