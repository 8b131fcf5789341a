-- How deep the events of a report nest.
use Rattle.std.proofs.Common.{◌≤◌, ◌∷◌, List, Option, None, Some, arith}
use Rattle.json.specs.Tree.{depth}
use Rattle.rtps_evidence.specs.Times as times
use Rattle.rtps_ids.specs.declared.identity.GuidPrefix.{GuidPrefix}
use Rattle.rtps_report.specs.Events as events
use Rattle.rtps_report.specs.Talk as talk
use Rattle.rtps_json.specs.EventMembers as event_members
use Rattle.rtps_json.specs.JsonText as json_text
use Rattle.rtps_json.proofs.JsonLemmas.{items_within, numbers_within, place_within}

parties_within : (first : GuidPrefix) (second : Option GuidPrefix) → depth (json_text.array_of (event_members.party_json first ∷ event_members.parties_by second)) ≤ 1
parties_within first None = omega arith
parties_within first (Some second) = omega arith

event_within : (times : times.TimesValue) (talk : talk.TalkValue) (event : events.EventValue) → depth (event_members.event_json times talk event) ≤ 2
event_within times talk event =
    omega (
      arith,
      parties_within event.key.first event.key.second,
      numbers_within event.places,
      place_within times event.first,
      place_within times event.last,
      place_within times event.asked,
    )

pub events_within : (times : times.TimesValue) (talk : talk.TalkValue) (events : List events.EventValue) → depth ((event_members.events_member times talk events).1) ≤ 3
events_within times talk events = omega (arith, items_within (event_members.event_json times talk) 2 events (event_within times talk))
