-- How deep the members nest that say who does not talk.
use Rattle.std.proofs.Common.{◌≤◌, ◌++◌, ◌∷◌, [], ℕ, Bool, true, false, is_some, List, Option, None, Some, arith, codes}
use Rattle.json.specs.Json.{boolean, string}
use Rattle.json.specs.Tree.{depth, members_depth}
use Rattle.rtps_evidence.specs.Times as times_spec
use Rattle.rtps_policies.specs.Fitting as fitting
use Rattle.rtps_policies.specs.PolicyText as policy_text
use Rattle.rtps_policies.specs.Unmatched as unmatched
use Rattle.rtps_policies.specs.declared.fitting.Policy.{Policy}
use Rattle.rtps_policies.specs.declared.host.Address.{Address}
use Rattle.rtps_evidence.specs.FirstNumbers as first_numbers
use Rattle.rtps_report.specs.BestEfforts as best_efforts
use Rattle.rtps_report.specs.FullReport as full_report
use Rattle.rtps_report.specs.LateRows as late_rows
use Rattle.rtps_parts.specs.Names as names
use Rattle.rtps_report.specs.NotTold as not_told
use Rattle.rtps_report.specs.Talk as talk
use Rattle.rtps_report.specs.declared.two_lives.TwoLives.{TwoLives}
use Rattle.rtps_who.specs.Processes as processes
use Rattle.rtps_json.specs.DiscoveryMembers as discovery_members
use Rattle.rtps_lines.specs.Lines as lines
use Rattle.rtps_json.specs.EndMembers as end_members
use Rattle.rtps_report.specs.declared.participant.Participant.{Participant}
use Rattle.rtps_json.specs.JsonText as json_text
use Rattle.rtps_lines.specs.PolicyValues as policy_values
use Rattle.rtps_json.specs.AddressMembers as address_members
use Rattle.rtps_json.specs.TalkMembers as talk_members
use Rattle.rtps_lines.specs.declared.policy_values.NameStyle.{NameStyle}
use Rattle.rtps_json.proofs.JsonLemmas.{items_within, joined, numbers_within, place_within, second_within, timed_within}

reasons_within : (policies : List Policy) → depth (talk_members.reasons_json policies) ≤ 1
reasons_within policies = omega (arith, items_within (λ policy. string (policy_text.policy_name policy)) 0 policies (λ policy. omega arith))

values_within : (policies : List Policy) (profile : fitting.ProfileValue) → depth (talk_members.values_json policies profile) ≤ 1
values_within policies profile = omega (arith, items_within (λ policy. string (policy_values.value_text NameStyle.Dds policy profile)) 0 policies (λ policy. omega arith))

unmatched_within : (one : unmatched.UnmatchedValue) → depth (talk_members.unmatched_json one) ≤ 2
unmatched_within one = omega (arith, reasons_within one.reasons, values_within one.reasons one.writer, values_within one.reasons one.reader)

talking_within : (one : unmatched.UnmatchedValue) → depth (talk_members.talking_json one) ≤ 2
talking_within one = omega (arith, reasons_within one.reasons)

address_within : (address : Option Address) → depth (address_members.address_json address) ≤ 0
address_within None = omega arith
address_within (Some address) = omega arith

until_within : (until : Option ℕ) → depth (json_text.until_json until) ≤ 0
until_within None = omega arith
until_within (Some datagram) = omega arith

stay_times_within : (times : times_spec.TimesValue) (participant : Participant) → members_depth (json_text.members_of (talk_members.stay_times times participant)) ≤ 0
stay_times_within times participant =
    let first : Option ℕ = talk_members.first_of participant in
    let last : Option ℕ = talk_members.last_of participant in
    let left : Option ℕ = participant.left in
    timed_within 0 times ((codes "first_time", json_text.second_json (json_text.second_at times first)) ∷ (codes "last_time", json_text.second_json (json_text.second_at times last))
    ∷ (codes "left_time", json_text.second_json (json_text.second_at times left)) ∷ (codes "first_frame", json_text.until_json (json_text.frame_at times first)) ∷ (codes "last_frame", json_text.until_json (json_text.frame_at times last))
    ∷ (codes "left_frame", json_text.until_json (json_text.frame_at times left)) ∷ (codes "silent", boolean participant.silent) ∷ [])
    (omega (
      arith,
      second_within (json_text.second_at times first),
      second_within (json_text.second_at times last),
      second_within (json_text.second_at times left),
      until_within (json_text.frame_at times first),
      until_within (json_text.frame_at times last),
      until_within (json_text.frame_at times left),
    ))

known_within : (octets : Option (List ℕ)) → depth (end_members.known_json octets) ≤ 0
known_within None = omega arith
known_within (Some octets) = omega arith

process_within : (process : processes.ProcessValue) → members_depth (json_text.members_of (end_members.process_members process)) ≤ 1
process_within process =
    omega (
      arith,
      known_within process.host,
      known_within process.program,
      until_within process.pid,
      known_within process.name,
      known_within process.enclave,
    )

named_within : (talk : talk.TalkValue) (participant : Participant) → members_depth (json_text.members_of (talk_members.named_members talk participant)) ≤ 1
named_within talk participant =
    joined 1 (end_members.process_members (talk.ends participant.guid).process) (end_members.nodes_member (talk.nodes participant.guid.prefix) ∷ []) (process_within (talk.ends participant.guid).process)
    (omega (arith, items_within json_text.node_json 0 (talk.nodes participant.guid.prefix) (λ node. omega arith)))

placed_within : (times : times_spec.TimesValue) (participant : Participant) → members_depth (json_text.members_of (talk_members.placed_members times participant)) ≤ 1
placed_within times participant =
    omega (
      arith,
      address_within participant.host.address,
      until_within participant.host.domain,
      until_within (talk_members.first_of participant),
      until_within (talk_members.last_of participant),
      until_within participant.left,
      stay_times_within times participant,
    )

participant_within : (talk : talk.TalkValue) (times : times_spec.TimesValue) (participant : Participant) → depth (talk_members.participant_json talk times participant) ≤ 2
participant_within talk times participant =
    let all = joined 1 (talk_members.placed_members times participant) (talk_members.named_members talk participant) (placed_within times participant) (named_within talk participant) in
    omega (arith, all)

held_within : (has_other : Bool) (held : List best_efforts.HeldValue) → members_depth (json_text.members_of (talk_members.held_members has_other held)) ≤ 3
held_within true held = omega (arith, items_within talk_members.held_json 2 held (λ one. omega (arith, numbers_within (first_numbers.numbers_of one.arrived.lacking))))
held_within false held = omega arith

guids_within : (ends : List not_told.TopicEndValue) → depth (discovery_members.ends_json ends) ≤ 1
guids_within ends = omega (arith, items_within (λ (end : not_told.TopicEndValue). string (names.guid_text end.guid)) 0 ends (λ end. omega arith))

not_told_within : (one : not_told.NotToldValue) → depth (discovery_members.not_told_json one) ≤ 2
not_told_within one = omega (arith, guids_within one.writers, guids_within one.readers)

lives_within : (talk : talk.TalkValue) (times : times_spec.TimesValue) (one : TwoLives) → depth (discovery_members.lives_json talk times one) ≤ 2
lives_within talk times one =
    omega (
      arith,
      address_within (talk.ends one.participant).address,
      second_within (Some (lines.sent_second times one.sent.0)),
      second_within (Some (lines.sent_second times one.sent.1)),
    )

late_within : (times : times_spec.TimesValue) (one : late_rows.LateRowValue) → depth (discovery_members.late_json times one) ≤ 2
late_within times one = omega (arith, second_within (Some (times_spec.seconds_of one.late.delay)), place_within times (Some one.late.place))

discovery_within : (times : times_spec.TimesValue) (talk : talk.TalkValue) (late : List late_rows.LateRowValue) → members_depth (json_text.members_of (discovery_members.discovery_members times talk late)) ≤ 3
discovery_within times talk late =
    omega (
      arith,
      items_within discovery_members.not_told_json 2 talk.not_told not_told_within,
      items_within (discovery_members.late_json times) 2 late (late_within times),
      items_within (discovery_members.lives_json talk times) 2 talk.lives (lives_within talk times),
    )

pub talk_depth : (times : times_spec.TimesValue) (report : full_report.ReportValue) → members_depth (json_text.members_of (talk_members.talk_members times report)) ≤ 3
talk_depth times report =
    let late = late_rows.late_rows report.talk (full_report.rows_of report) in
    let unmatched = items_within talk_members.unmatched_json 2 report.talk.unmatched unmatched_within in
    let talking = items_within talk_members.talking_json 2 report.talk.talking talking_within in
    let left_out = items_within (λ (one : talk.LeftOutValue). talk_members.unobserved_json (report.talk.silence one.pair) one) 1 report.talk.left_out (λ one. omega arith) in
    let one_way = items_within talk_members.one_way_json 1 report.talk.one_way (λ one. omega arith) in
    let sums = items_within talk_members.best_effort_json 1 report.talk.best_effort (λ sum. omega arith) in
    let participants = items_within (talk_members.participant_json report.talk times) 2 report.talk.participants (participant_within report.talk times) in
    let held = talk_members.held_members (is_some report.arrived) report.talk.held in
    let end = joined 3 held (talk_members.participants_member times report.talk ∷ []) (held_within (is_some report.arrived) report.talk.held) (omega (arith, participants)) in
    let rest =
    joined 3 (discovery_members.discovery_members times report.talk late) (talk_members.best_effort_member report.talk.best_effort ∷ (held ++ talk_members.participants_member times report.talk ∷ [])) (discovery_within times report.talk late)
    (omega (arith, sums, end)) in
    omega (arith, unmatched, talking, left_out, one_way, rest)
