-- Which recording a page is of. RFC 8259 "The JavaScript Object Notation (JSON) Data Interchange Format".
-- own: a page is kept beside others, so it says the name of the recording as it was given, which version of the program made it, and when
-- the recording begins and ends: with its first datagram, and with the greatest time of a frame. No report has these: the name and the
-- version stand on the command line and in the program. Moments are whole milliseconds since 1970 began, which a number of JavaScript
-- holds.
use Rattle.std.specs.Prelude.{ℕ, List, [], ◌∷◌, codes, Option, None, Some}
use Rattle.json.specs.Json.{Json, null, string}
use Rattle.rtps_evidence.specs.Times as times_spec
use Rattle.rtps_json.specs.JsonText as json_text
use Rattle.rtps_page.specs.declared.origin.Origin.{Origin}

-- the name of the recording, `-` for standard input, and the version of the program
pub record OriginValue : Type 0 where
  pub name : List ℕ
  pub version : List ℕ

-- those of the code, as a value
abbrev pub origin_value : Origin → OriginValue
origin_value origin = record { name = origin.name.now; version = origin.version.now }

-- a moment; null where there is none
abbrev pub moment_json : Option ℕ → Json
moment_json None = null
moment_json (Some nanoseconds) = json_text.count_json (times_spec.milliseconds_of nanoseconds)

-- which recording it is, and when it begins and ends
abbrev pub recording_members : OriginValue → times_spec.TimesValue → List json_text.Member
recording_members origin times = (codes "name", string origin.name) ∷ (codes "version", string origin.version)
    ∷ (codes "begin", moment_json (times_spec.time_of times.of_datagrams 1)) ∷ (codes "end", moment_json times.end) ∷ []

-- the same, as a member
abbrev pub recording_member : OriginValue → times_spec.TimesValue → json_text.Member
recording_member origin times = (codes "recording", json_text.object_of (recording_members origin times))
