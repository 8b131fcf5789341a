-- The members of the object of a report that say who does not talk. own: other programs get the names of DDS, which `list` prints; words for
-- values are those of the text.
use Rattle.std.specs.Prelude.{ℕ, ◌++◌, Bool, if◌then◌else◌, is_some, List, [], ◌∷◌, codes, map, Option}
use Rattle.std.specs.Option.{option_map}
use Rattle.json.specs.Json.{Json, boolean, string}
use Rattle.rtps_discovery.specs.declared.matching.Pair.{Pair}
use Rattle.rtps_evidence.specs.FirstNumbers as first_numbers
use Rattle.rtps_evidence.specs.Times as times
use Rattle.rtps_parts.specs.Names as names
use Rattle.rtps_policies.specs.Announcing as announcing
use Rattle.rtps_policies.specs.Fitting as fitting
use Rattle.rtps_policies.specs.PolicyText as policy_text
use Rattle.rtps_policies.specs.Unmatched as unmatched
use Rattle.rtps_policies.specs.declared.fitting.Policy.{Policy}
use Rattle.rtps_policies.specs.declared.one_way.OneWay.{OneWay}
use Rattle.rtps_policies.specs.declared.silence.Silence.{Silence}
use Rattle.rtps_report.specs.BestEfforts as best_efforts
use Rattle.rtps_report.specs.LateRows as late_rows
use Rattle.rtps_report.specs.FullReport as full_report
use Rattle.rtps_report.specs.Talk as talk
use Rattle.rtps_report.specs.declared.participant.Participant.{Participant}
use Rattle.rtps_json.specs.AddressMembers as address_members
use Rattle.rtps_json.specs.DiscoveryMembers as discovery_members
use Rattle.rtps_json.specs.EndMembers as end_members
use Rattle.rtps_json.specs.JsonText as json_text
use Rattle.rtps_lines.specs.PolicyValues as policy_values
use Rattle.rtps_lines.specs.declared.policy_values.NameStyle.{NameStyle}

-- the names of policies
abbrev pub reasons_json : List Policy → Json
reasons_json policies = json_text.array_of (map (λ policy. string (policy_text.policy_name policy)) policies)

-- what an endpoint has of policies
abbrev pub values_json : List Policy → fitting.ProfileValue → Json
values_json policies profile = json_text.array_of (map (λ policy. string (policy_values.value_text NameStyle.Dds policy profile)) policies)

-- a writer and a reader that do not match, and for each policy that does not suit what is offered and what is requested
abbrev pub unmatched_json : unmatched.UnmatchedValue → Json
unmatched_json one =
    json_text.object_of ((codes "topic", json_text.name_json one.writer.endpoint.topic) ∷ (codes "writer", string (names.guid_text one.writer.endpoint.guid))
    ∷ (codes "reader", string (names.guid_text one.reader.endpoint.guid)) ∷ (codes "because", reasons_json one.reasons)
    ∷ (codes "offered", values_json one.reasons one.writer) ∷ (codes "requested", values_json one.reasons one.reader) ∷ [])

-- the member of all that do not match
abbrev pub unmatched_member : List unmatched.UnmatchedValue → json_text.Member
unmatched_member unmatched = (codes "unmatched", json_text.array_of (map unmatched_json unmatched))

-- a writer and a reader that talk though they do not match
abbrev pub talking_json : unmatched.UnmatchedValue → Json
talking_json one =
    json_text.object_of ((codes "topic", json_text.name_json one.writer.endpoint.topic) ∷ (codes "writer", string (names.guid_text one.writer.endpoint.guid))
    ∷ (codes "reader", string (names.guid_text one.reader.endpoint.guid)) ∷ (codes "because", reasons_json one.reasons) ∷ [])

-- the member of all of them
abbrev pub talking_member : List unmatched.UnmatchedValue → json_text.Member
talking_member talking = (codes "talking", json_text.array_of (map talking_json talking))

-- why a pair is silent, in a word
unfoldable pub silence_name : Silence → List ℕ
silence_name Silence.OneParticipant = codes "one participant"
silence_name Silence.TwoDomains = codes "two domains"
silence_name Silence.OneWay = codes "one way"
silence_name Silence.Silent = codes "silent"

-- a pair of which the recording cannot speak, and why
abbrev pub unobserved_json : Silence → talk.LeftOutValue → Json
unobserved_json reason one =
    json_text.object_of ((codes "topic", json_text.name_json one.topic) ∷ (codes "writer", string (names.guid_text one.pair.writer)) ∷ (codes "reader", string (names.guid_text one.pair.reader))
    ∷ (codes "because", string (silence_name reason)) ∷ [])

-- the member of all pairs that are left out
abbrev pub unobserved_member : (Pair → Silence) → List talk.LeftOutValue → json_text.Member
unobserved_member silence_of pairs = (codes "unobserved", json_text.array_of (map (λ one. unobserved_json (silence_of one.pair) one) pairs))

-- a participant that names another, the one that never answers, and in how many datagrams it is named
abbrev pub one_way_json : OneWay → Json
one_way_json one =
    json_text.object_of ((codes "from", string (names.guid_text (announcing.participant_of one.naming.source))) ∷ (codes "to", string (names.guid_text (announcing.participant_of one.naming.dest)))
    ∷ (codes "named", json_text.count_json one.count) ∷ [])

-- the member of all that talk one way
abbrev pub one_way_member : List OneWay → json_text.Member
one_way_member one_way = (codes "one_way", json_text.array_of (map one_way_json one_way))

-- the pairs of best effort of a topic
abbrev pub best_effort_json : best_efforts.BestEffortValue → Json
best_effort_json sum =
    json_text.object_of ((codes "topic", json_text.name_json sum.topic) ∷ (codes "pairs", json_text.count_json sum.pairs) ∷ (codes "numbers", json_text.count_json sum.numbers)
    ∷ (codes "recorded", json_text.count_json sum.recorded) ∷ [])

-- the member of all topics
abbrev pub best_effort_member : List best_efforts.BestEffortValue → json_text.Member
best_effort_member sums = (codes "best_effort", json_text.array_of (map best_effort_json sums))

-- a pair of best effort that is held against another recording: how many numbers it has, how many of them arrived, and the first that did not
abbrev pub held_json : best_efforts.HeldValue → Json
held_json one =
    json_text.object_of ((codes "topic", json_text.name_json one.topic) ∷ (codes "writer", string (names.guid_text one.pair.writer)) ∷ (codes "reader", string (names.guid_text one.pair.reader))
    ∷ (codes "numbers", json_text.count_json one.numbers) ∷ (codes "arrived", json_text.count_json one.arrived.arrived) ∷ (codes "not_arrived", json_text.numbers_json (first_numbers.numbers_of one.arrived.lacking)) ∷ [])

-- the member of all such pairs
abbrev pub held_member : List best_efforts.HeldValue → json_text.Member
held_member held = (codes "arrived", json_text.array_of (map held_json held))

-- the same, where there is another recording
abbrev pub held_members : Bool → List best_efforts.HeldValue → List json_text.Member
held_members has_other held = if has_other then held_member held ∷ [] else []

-- from which datagram on there is something of a participant
abbrev pub first_of : Participant → Option ℕ
first_of participant = option_map (λ stay. stay.first) participant.stay

-- up to which there is
abbrev pub last_of : Participant → Option ℕ
last_of participant = option_map (λ stay. stay.last) participant.stay

-- when these datagrams came, and the one in which it leaves; their frames; and whether it is silent
abbrev pub stay_times : times.TimesValue → Participant → List json_text.Member
stay_times times participant =
    json_text.timed_members times (json_text.second_member (codes "first_time") times (first_of participant) ∷ json_text.second_member (codes "last_time") times (last_of participant)
    ∷ json_text.second_member (codes "left_time") times participant.left ∷ json_text.frame_member (codes "first_frame") times (first_of participant)
    ∷ json_text.frame_member (codes "last_frame") times (last_of participant) ∷ json_text.frame_member (codes "left_frame") times participant.left ∷ (codes "silent", boolean participant.silent) ∷ [])

-- from when to when there is something of a participant, and where it leaves
abbrev pub stay_members : times.TimesValue → Participant → List json_text.Member
stay_members times participant =
    (codes "first", json_text.until_json (first_of participant)) ∷ (codes "last", json_text.until_json (last_of participant)) ∷ (codes "left", json_text.until_json participant.left)
    ∷ stay_times times participant

-- the process of a participant, and its nodes
abbrev pub named_members : talk.TalkValue → Participant → List json_text.Member
named_members talk participant = end_members.process_members (talk.ends participant.guid).process ++ end_members.nodes_member (talk.nodes participant.guid.prefix) ∷ []

-- where a participant is, and when there is something of it
abbrev pub placed_members : times.TimesValue → Participant → List json_text.Member
placed_members times participant =
    (codes "guid", string (names.guid_text participant.guid)) ∷ (codes "address", address_members.address_json participant.host.address)
    ∷ (codes "domain", json_text.until_json participant.host.domain) ∷ stay_members times participant

-- a participant: that, and by what it is known
abbrev pub participant_json : talk.TalkValue → times.TimesValue → Participant → Json
participant_json talk times participant = json_text.object_of (placed_members times participant ++ named_members talk participant)

-- the member of all participants
abbrev pub participants_member : times.TimesValue → talk.TalkValue → json_text.Member
participants_member times talk = (codes "participants", json_text.array_of (map (participant_json talk times) talk.participants))

-- all of them
abbrev pub talk_members : times.TimesValue → full_report.ReportValue → List json_text.Member
talk_members times report =
    unmatched_member report.talk.unmatched ∷ talking_member report.talk.talking ∷ unobserved_member report.talk.silence report.talk.left_out ∷ one_way_member report.talk.one_way
    ∷ (discovery_members.discovery_members times report.talk (late_rows.late_rows report.talk (full_report.rows_of report))
    ++ best_effort_member report.talk.best_effort ∷ (held_members (is_some report.arrived) report.talk.held ++ participants_member times report.talk ∷ []))
