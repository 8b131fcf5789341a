-- Where the readers of rows join. DDSI-RTPS 2.5, 8.5.4 "The Simple Endpoint Discovery Protocol".
-- own: a row tells from which number on it is, and not where its reader joined; a page shows that on its axis. A reader that claimed
-- something before it was announced was there before the recording, and joins nowhere.
use Rattle.std.specs.Prelude.{if◌then◌else◌, List, [], ◌∷◌, codes, map, Option, None, Some}
use Rattle.json.specs.Json.{Json, null}
use Rattle.rtps_evidence.specs.Times as times
use Rattle.rtps_json.specs.JsonText as json_text
use Rattle.rtps_lines.specs.Lines as lines
use Rattle.rtps_evidence.specs.Explanation as explanation
use Rattle.rtps_evidence.specs.declared.in_span.InSpan.{InSpan}
use Rattle.rtps_evidence.specs.declared.location.Location.{Location}

-- where the reader of a row joins in this recording; None where it does not
abbrev pub joined_in : Option InSpan → Option Location
joined_in None = None
joined_in (Some in_span) = if in_span.is_joined_here then in_span.joined else None

-- a place as an array: its datagram, its octet, and its second, or null where it has none; null where there is no place
abbrev pub joined_json : times.TimesValue → Option Location → Json
joined_json times None = null
joined_json times (Some place) =
    json_text.array_of (json_text.count_json place.datagram ∷ json_text.count_json place.at ∷ json_text.second_json (lines.second_in times place.datagram) ∷ [])

-- that of a row
abbrev pub joining_json : times.TimesValue → explanation.ExplanationValue → Json
joining_json times row = joined_json times (joined_in row.evidence.in_span)

-- those of all rows, in their order
abbrev pub joined_member : times.TimesValue → List explanation.ExplanationValue → json_text.Member
joined_member times rows = (codes "joined", json_text.array_of (map (joining_json times) rows))
