-- When the datagrams came that stand in the entries of charts. own: an entry names its datagram by its number. So a page tells the
-- second and the frame of each such datagram once, and not in each entry.
use Rattle.std.specs.Prelude.{ℕ, ◌++◌, ◌==◌, nat_lt, Bool, List, [], ◌∷◌, filter, length, map, Option, None, Some, flat_map}
use Rattle.std.specs.List.{list_any, range_with_len}
use Rattle.json.specs.Json.{Json}
use Rattle.rtps_ids.specs.declared.identity.Guid.{Guid}
use Rattle.rtps_receiver.specs.Speech as speech
use Rattle.rtps_discovery.specs.declared.matching.Pair.{Pair}
use Rattle.rtps_audit.specs.Placed as placed
use Rattle.rtps_evidence.specs.Times as times_spec
use Rattle.rtps_evidence.specs.declared.times.Seconds.{Seconds}
use Rattle.rtps_json.specs.JsonText as json_text
use Rattle.rtps_lines.specs.Lines as lines
use Rattle.rtps_page.specs.ChartEntries as chart_entries
use Rattle.rtps_page.specs.ChartRoom as chart_room

-- what an act says has an entry
abbrev pub has_entry : placed.PlacedValue → Bool
has_entry placed = nat_lt 0 (length (chart_entries.entries_of placed))

-- the datagrams in which this writer says something that has an entry
abbrev pub said_in : List placed.PlacedValue → Guid → List ℕ
said_in acts writer = map (λ placed. placed.datagram) (filter has_entry (filter (λ placed. speech.is_spoken_by placed.act writer) acts))

-- the datagrams in which the reader of a pair answers its writer
abbrev pub answered_in : List placed.PlacedValue → Pair → List ℕ
answered_in acts pair = map (λ answer. answer.datagram) (placed.answers_among pair acts)

-- the datagrams that stand in the entries of the charts of these pairs
abbrev pub datagrams_shown : List placed.PlacedValue → List Pair → List ℕ
datagrams_shown acts pairs = flat_map (said_in acts) (chart_room.writers_behind None pairs) ++ flat_map (answered_in acts) pairs

-- a number is one of these
abbrev pub is_among : List ℕ → ℕ → Bool
is_among numbers number = list_any (λ other. number == other) numbers

-- a frame as an item; nothing where there is none
abbrev pub frame_items : Option ℕ → List Json
frame_items None = []
frame_items (Some frame) = json_text.count_json frame ∷ []

-- a datagram, its second and its frame; nothing where it has no time
abbrev pub time_json : ℕ → Option ℕ → Option Seconds → List Json
time_json datagram frame None = []
time_json datagram frame (Some second) = json_text.array_of (json_text.count_json datagram ∷ json_text.second_json (Some second) ∷ frame_items frame) ∷ []

-- that of a datagram of a recording
abbrev pub time_of_json : times_spec.TimesValue → ℕ → List Json
time_of_json times datagram = time_json datagram (times_spec.frame_of times.frames datagram) (lines.second_in times datagram)

-- of all datagrams of a recording those that are shown and have a time, each with its second
abbrev pub times_json : times_spec.TimesValue → List ℕ → List Json
times_json times shown =
    flat_map (time_of_json times) (filter (is_among shown) (range_with_len 1 (length times.of_datagrams)))
