-- Which writers and readers matched late. DDSI-RTPS 2.5, 8.5 "Discovery Module". own: a volatile reader gets nothing that was written before the two
-- matched; more than a second behind the later of the two is late: on one network it takes some milliseconds. Of one GUID with two lives nothing is
-- said, since its announcements are of both.
use Rattle.std.specs.Prelude.{ℕ, ◌^◌, ◌||◌, Bool, if◌then◌else◌, is_none, is_some, nat_lt, List, map, Option, Some, None}
use Rattle.std.specs.List.{filter_map}
use Rattle.rtps_discovery.specs.declared.matching.Pair.{Pair}
use Rattle.rtps_evidence.specs.declared.location.Location.{Location}
use Rattle.rtps_known.specs.Matched as matched
use Rattle.rtps_known.specs.Places as places
use Rattle.rtps_known.specs.declared.matches.Matched.{Matched}
use Rattle.rtps_known.specs.declared.place.Place.{Place}
use Rattle.rtps_policies.specs.Announcing as announcing
use Rattle.rtps_report.specs.TwoLives as two_lives
use Rattle.rtps_report.specs.declared.late_matches.LateMatch.{LateMatch}
use Rattle.rtps_report.specs.declared.two_lives.TwoLives.{TwoLives}

-- where a place is, whenever its datagram came
abbrev pub location_of : Place → Location
location_of place = record { datagram = place.datagram; at = place.at }

-- a match at a place, where it is late by so much, in nanoseconds
abbrev pub late_with : Place → Option ℕ → Option LateMatch
late_with place (Some delay) = if nat_lt (10 ^ 9) delay then Some (record { delay = delay; place = location_of place }) else None
late_with place None = None

-- a match, where it is late
abbrev pub late_by : Option Matched → Option LateMatch
late_by (Some found) = late_with found.place found.delay
late_by None = None

-- a participant of the two has two of these lives
abbrev pub is_mixed : List TwoLives → Pair → Bool
is_mixed lives pair = two_lives.lives_twice lives (announcing.participant_of pair.writer.prefix) || two_lives.lives_twice lives (announcing.participant_of pair.reader.prefix)

-- where the two of a pair matched late by these acts, if they did
abbrev pub late_of : List places.PlacedAct → List TwoLives → Pair → Option LateMatch
late_of acts lives pair = if is_mixed lives pair then None else late_by (matched.matched acts pair.writer pair.reader)
