-- The member of the object of a report that has its events. own: other programs get what makes rows unclean together, worst first, by the places of these rows.
use Rattle.std.specs.Prelude.{ℕ, ◌++◌, List, [], ◌∷◌, codes, map, Option, None, Some}
use Rattle.json.specs.Json.{Json, string}
use Rattle.rtps_ids.specs.declared.identity.GuidPrefix.{GuidPrefix}
use Rattle.rtps_parts.specs.Names as names
use Rattle.rtps_policies.specs.Announcing as announcing
use Rattle.rtps_evidence.specs.Times as times
use Rattle.rtps_report.specs.Events as events
use Rattle.rtps_report.specs.Talk as talk
use Rattle.rtps_report.specs.declared.event_rows.EventKey.{EventKey}
use Rattle.rtps_lines.specs.EventText as event_text
use Rattle.rtps_json.specs.JsonText as json_text

-- what an event is of, in a word: a participant that is silent, or two participants
abbrev pub name_by : Option GuidPrefix → List ℕ
name_by None = codes "silent"
name_by (Some second) = codes "between"

-- that of an event with this key
abbrev pub event_name : EventKey → List ℕ
event_name key = name_by key.second

-- the GUID of a participant
abbrev pub party_json : GuidPrefix → Json
party_json prefix = string (names.guid_text (announcing.participant_of prefix))

-- that of the second one, if there is one
abbrev pub parties_by : Option GuidPrefix → List Json
parties_by None = []
parties_by (Some prefix) = party_json prefix ∷ []

-- those of an event
abbrev pub parties_json : EventKey → Json
parties_json key = json_text.array_of (party_json key.first ∷ parties_by key.second)

-- the places of its rows, and how many numbers they lost
abbrev pub amounts_members : events.EventValue → List json_text.Member
amounts_members event = (codes "pairs", json_text.numbers_json event.places) ∷ (codes "numbers", json_text.count_json event.numbers) ∷ []

-- where the first and the last of these numbers were sent first, and where the silent participant was asked first behind its last answer
abbrev pub places_members : times.TimesValue → events.EventValue → List json_text.Member
places_members times event =
    (codes "first", json_text.place_json times event.first) ∷ (codes "last", json_text.place_json times event.last) ∷ (codes "asked", json_text.place_json times event.asked) ∷ []

-- all of it in a sentence
abbrev pub sentence_member : times.TimesValue → talk.TalkValue → events.EventValue → json_text.Member
sentence_member times talk event = (codes "text", string (event_text.event_text times talk event))

-- an event
abbrev pub event_json : times.TimesValue → talk.TalkValue → events.EventValue → Json
event_json times talk event =
    json_text.object_of ((codes "event", string (event_name event.key)) ∷ (codes "participants", parties_json event.key)
    ∷ (amounts_members event ++ (places_members times event ++ sentence_member times talk event ∷ [])))

-- the member of all events
abbrev pub events_member : times.TimesValue → talk.TalkValue → List events.EventValue → json_text.Member
events_member times talk events = (codes "events", json_text.array_of (map (event_json times talk) events))
