-- The members of the object of a report that say what discovery has told. own: they stand behind who talks one way, which is one of the reasons.
use Rattle.std.specs.Prelude.{ℕ, List, [], ◌∷◌, codes, map, Some}
use Rattle.json.specs.Json.{Json, string}
use Rattle.rtps_evidence.specs.Times as times_spec
use Rattle.rtps_parts.specs.Names as names
use Rattle.rtps_report.specs.LateRows as late_rows
use Rattle.rtps_report.specs.NotTold as not_told
use Rattle.rtps_report.specs.Talk as talk
use Rattle.rtps_report.specs.declared.two_lives.TwoLives.{TwoLives}
use Rattle.rtps_json.specs.AddressMembers as address_members
use Rattle.rtps_lines.specs.Lines as lines
use Rattle.rtps_json.specs.JsonText as json_text

-- the GUIDs of endpoints
abbrev pub ends_json : List not_told.TopicEndValue → Json
ends_json ends = json_text.array_of (map (λ end. string (names.guid_text end.guid)) ends)

-- who was never told of which endpoints of whom
abbrev pub not_told_json : not_told.NotToldValue → Json
not_told_json one =
    json_text.object_of ((codes "from", string (names.guid_text one.from)) ∷ (codes "to", string (names.guid_text one.to)) ∷ (codes "writers", ends_json one.writers)
    ∷ (codes "readers", ends_json one.readers) ∷ (codes "unnamed", json_text.count_json one.unnamed) ∷ [])

-- the member of all
abbrev pub not_told_member : List not_told.NotToldValue → json_text.Member
not_told_member found = (codes "untold", json_text.array_of (map not_told_json found))

-- a pair that matched late: by how much, and where
abbrev pub late_json : times_spec.TimesValue → late_rows.LateRowValue → Json
late_json times one =
    json_text.object_of ((codes "topic", json_text.name_json one.topic) ∷ (codes "writer", string (names.guid_text one.pair.writer)) ∷ (codes "reader", string (names.guid_text one.pair.reader))
    ∷ (codes "seconds", json_text.second_json (Some (times_spec.seconds_of one.late.delay))) ∷ (codes "matched", json_text.place_json times (Some one.late.place)) ∷ [])

-- the member of all
abbrev pub late_member : times_spec.TimesValue → List late_rows.LateRowValue → json_text.Member
late_member times late = (codes "late", json_text.array_of (map (late_json times) late))

-- the two source times of a participant with two lives
abbrev pub sent_json : times_spec.TimesValue → ℕ × ℕ → Json
sent_json times sent = json_text.array_of (json_text.second_json (Some (lines.sent_second times sent.0)) ∷ json_text.second_json (Some (lines.sent_second times sent.1)) ∷ [])

-- a participant with two lives
abbrev pub lives_json : talk.TalkValue → times_spec.TimesValue → TwoLives → Json
lives_json talk times one =
    json_text.object_of ((codes "participant", string (names.guid_text one.participant)) ∷ (codes "address", address_members.address_json (talk.ends one.participant).address)
    ∷ (codes "sent", sent_json times one.sent) ∷ [])

-- the member of all
abbrev pub lives_member : times_spec.TimesValue → talk.TalkValue → json_text.Member
lives_member times talk = (codes "lives", json_text.array_of (map (lives_json talk times) talk.lives))

-- all of them, where these rows matched late
abbrev pub discovery_members : times_spec.TimesValue → talk.TalkValue → List late_rows.LateRowValue → List json_text.Member
discovery_members times talk late = not_told_member talk.not_told ∷ late_member times late ∷ lives_member times talk ∷ []
