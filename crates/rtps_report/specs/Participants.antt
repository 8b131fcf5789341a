-- What a recording says of each participant that it announces. DDSI-RTPS 2.5, 8.5.3 "The Simple Participant Discovery Protocol".
use Rattle.std.specs.Prelude.{ℕ, ◌≡◌, ◌-◌, ◌^◌, Bool, false, min, nat_lt, List, [], ◌∷◌, Option, Some, None, unwrap_or}
use Rattle.std.specs.BTreeMap.{BTreeMap, get}
use Rattle.std.specs.List.{find, list_all}
use Rattle.std.specs.Option.{option_map}
use Rattle.rtps_ids.specs.declared.identity.Guid.{Guid}
use Rattle.rtps_discovery.specs.GuidOrder as guid_order
use Rattle.rtps_discovery.specs.Notice as notice
use Rattle.rtps_audit.specs.Placed as placed
use Rattle.rtps_audit.specs.Intake as intake_spec
use Rattle.rtps_evidence.specs.Locations as locations
use Rattle.rtps_evidence.specs.Spans as spans
use Rattle.rtps_evidence.specs.Times as times
use Rattle.rtps_evidence.specs.declared.location.Location.{Location}
use Rattle.rtps_policies.specs.Announcing as announcing
use Rattle.rtps_policies.specs.Silence as silence
use Rattle.rtps_policies.specs.declared.host.Address.{Address}
use Rattle.rtps_policies.specs.declared.host.Host.{Host}
use Rattle.rtps_report.specs.Stays as stays
use Rattle.rtps_report.specs.declared.participant.Participant.{Participant}

-- a participant that is announced is this one
abbrev pub is_that : Guid → Option Guid → Bool
is_that guid (Some other) = placed.is_guid guid other
is_that guid None = false

-- an act announces this participant
abbrev pub announces : Guid → placed.PlacedValue → Bool
announces guid placed = is_that guid (notice.participant_in (notice.announcement_of placed.act))

-- where a participant is announced first
abbrev pub place_of : Guid → List placed.PlacedValue → Option Location
place_of guid acts = option_map locations.location_of (find (announces guid) acts)

-- these are the places of participants
abbrev pub AreJoined : List placed.PlacedValue → BTreeMap Guid Location → Type 0
AreJoined acts joined = (guid : Guid) → get guid_order.guid_cmp joined guid ≡ place_of guid acts

-- when a participant leaves, if it does
abbrev pub left_of : intake_spec.Intake → Guid → Option ℕ
left_of intake guid = spans.left_in (place_of guid (placed.placed_in intake.announcing)) guid (placed.placed_in intake.acts)

-- a participant is silent, by its lease, the datagram in which it leaves, the time of its last datagram and the end of the recording: it
-- does not leave, and the last datagram came more than ten seconds before the end, or more than the lease where that is shorter
abbrev pub is_silent : ℕ → Option ℕ → Option ℕ → Option ℕ → Bool
is_silent lease (Some left) latest end = false
is_silent lease None None end = false
is_silent lease None (Some latest) None = false
is_silent lease None (Some latest) (Some end) = nat_lt (min (10 ^ 10) lease) (end - latest)

-- what is announced of where a participant is, and of its lease
abbrev pub host_known : intake_spec.Intake → Guid → Host
host_known intake guid = unwrap_or (announcing.host_among (intake_spec.acts_together intake.announcing) guid) announcing.unknown_host

-- what a recording says of a participant: of what is announced, of its datagrams and when they came, and of the acts that rows are by
abbrev pub participant_told : intake_spec.Intake → List (List ℕ) → times.TimesValue → Guid → Participant
participant_told intake recording times guid =
    record {
      guid = guid;
      host = host_known intake guid;
      stay = stays.stay_of recording guid.prefix;
      left = left_of intake guid;
      silent = is_silent (host_known intake guid).lease (left_of intake guid) (stays.latest_of recording times.of_datagrams guid.prefix) times.end;
    }

-- ---- hosts

-- an address that is known is this one
abbrev pub is_address : Address → Option Address → Bool
is_address address (Some own) = silence.is_same_address own address
is_address address None = false

-- the participant has this address
abbrev pub has_address : Address → Participant → Bool
has_address address participant = is_address address participant.host.address

-- all of these have the address of the first, which has one
abbrev pub share_address : Option Address → List Participant → Bool
share_address None participants = false
share_address (Some address) participants = list_all (has_address address) participants

-- there are participants, each with an address, all with the same one
abbrev pub are_on_one_host : List Participant → Bool
are_on_one_host [] = false
are_on_one_host (participant ∷ participants) = share_address participant.host.address participants
